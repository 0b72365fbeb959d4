-- `message_places`: the count, with the message places from this byte on, is that of the whole map.
use Rattle.std.proofs.Common.{◌≡◌, ◌+◌, ◌≤◌, drop}
use Rattle.polar_code.specs.Code.{message_places}
use Rattle.polar_code.proofs.kinds.message_places.Given as goal

abbrev pub invariant-loop-byte : goal.invariant-loop-byte
invariant-loop-byte l = (l.count + message_places (drop l.byte-index l.map) ≡ message_places l.map) × (l.count ≤ l.byte-index)
