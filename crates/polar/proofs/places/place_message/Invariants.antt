-- What is written before place j, and the word that the map makes from j on of the symbols that are left, are the whole
-- word.
use Rattle.std.proofs.Common.{◌≡◌, ◌++◌, take, drop}
use Rattle.polar.specs.Encode.{word_before}
use Rattle.polar.proofs.places.place_message.Given as goal

abbrev pub invariant-loop-j : goal.invariant-loop-j
invariant-loop-j l = take l.j l.word ++ word_before (drop l.j l.map) l.left.rest.now ≡ word_before l.map l.symbols
