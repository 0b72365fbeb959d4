-- One place more, by its kind, and the end.
use Rattle.std.proofs.Common.{ℕ, ◌<◌, List, ◌++◌, ap, sym, ◌∙◌, append-nil, take, arith, length, Iter, Option, unwrap_or}
use lib.ListN.{drop_of_length-le}
use lib.Seq.{take_all}
use Rattle.polar.specs.Encode.{word_before, symbol_at, rest_after}
use Rattle.polar.proofs.MessageLaws.{place_more, next_symbol}
use Rattle.polar.proofs.places.place_message.Goals.{in-Message, in-Frozen}
use Rattle.polar.proofs.places.place_message.Goals as goal

pub loop-j-preserved : goal.loop-j-preserved
unfolding symbol_at rest_after
loop-j-preserved c =
    let word_long : c.loop-j.j < length c.loop-j.word = (let p = c.requires.places in omega arith) in
    elim c.match-from.branch [
      | in-Message w ↦ (
          let next = next_symbol w.next.result c.loop-j.left w.next.new.self w.next.ensures.steps in
          place_more _ _ _ _ c.loop-j-test.true word_long (sym c.from.ensures ∙ w.in-Message.is) (w.word-is ∙ w.unwrap_or.ensures ∙ ap (λ (o : Option ℕ). unwrap_or o 0) w.copied.ensures ∙ next.0)
          (ap (λ (i : Iter ℕ). i.rest.now) w.left-is ∙ next.1) c.loop-j.invariant
          )
      | in-Frozen w ↦ place_more _ _ _ _ c.loop-j-test.true word_long (sym c.from.ensures ∙ w.in-Frozen.is) w.word-is (ap (λ (i : Iter ℕ). i.rest.now) w.left-is) c.loop-j.invariant
    ]

pub returns : goal.returns
unfolding word_before
returns c =
    let j = c.loop-j.j in
    let word = c.loop-j.word in
    sym (take_all j word (let p = c.requires.places in omega arith))
    ∙ sym (append-nil (take j word))
    ∙ ap (λ (x : List ℕ). take j word ++ word_before x c.loop-j.left.rest.now) (sym (drop_of_length-le c.args.map.now c.loop-j-test.false))
    ∙ c.loop-j.invariant
