-- A message place leaves room for its symbol, a place more is read or passed over, and at the end all are read (ReadLaws).
-- A place's kind, and that all places are past, are stated and found by the search: so a wrong loop fails by the fact
-- that it lacks.
use Rattle.std.proofs.Common.{◌≡◌, ◌≤◌, ℕ, List, length, ◌++◌, sym, ap, ◌∙◌, rules, get_or, take, drop}
use mathlib.Core.List.{append-nil}
use native.Mathlib.Omega.{arith}
use lib.ListN.{drop_of_length-le}
use lib.Seq.{take_all}
use Rattle.polar.specs.Message.{message_of}
use Rattle.polar_code.specs.Code.{kind_of, message_places}
use Rattle.polar_code.specs.declared.kinds.Kind.TheVariants.{Message as message}
use Rattle.loopback.proofs.ReadLaws.{as_read, room_left, read_more, read_past}
use Rattle.loopback.proofs.message.read_message.Goals.{in-Message, in_default}
use Rattle.loopback.proofs.message.read_message.Goals as goal

pub bounds-message-next : goal.bounds-message-next
bounds-message-next c =
    let kind : kind_of (get_or c.args.map.now c.loop-j.j 0) ≡ message = search rules in
    room_left c.args.map.now c.args.word.now c.args.message.now c.loop-j.message c.loop-j.next c.loop-j.j (search rules) c.loop-j.invariant kind

pub loop-j-preserved : goal.loop-j-preserved
loop-j-preserved c =
    let a = c.args in
    let at = c.loop-j in
    let kind : kind_of (get_or a.map.now at.j 0) ≡ c.from.result = search rules in
    elim c.match-from.branch [
      | in-Message w ↦ as_read w.message-is w.next-is (read_more a.map.now a.word.now a.message.now at.message at.next at.j (search rules) at.invariant (kind ∙ w.in-Message.is))
      | in_default w ↦ as_read w.message-is w.next-is (read_past a.map.now a.word.now a.message.now at.message at.next at.j (search rules) at.invariant (kind ∙ w.in_default.is))
    ]

pub returns : goal.returns
unfolding message_of message_places
returns c =
    let a = c.args in
    let at = c.loop-j in
    let past : length a.map.now ≤ at.j = search rules in
    let end = drop_of_length-le a.map.now past in
    let all = ap message_places end in
    let left = at.invariant.left in
    let long = at.invariant.long in
    sym
    (at.invariant.is
    ∙ ap (λ (x : List ℕ). take at.next at.message ++ message_of x (drop at.j a.word.now)) end
    ∙ append-nil (take at.next at.message) ∙ take_all at.next at.message (omega arith))
