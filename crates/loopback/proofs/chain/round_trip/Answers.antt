-- What each call leaves goes into the next (TripLaws).
use Rattle.std.proofs.Common.{ap, sym, subst}
use Rattle.refusal.proofs.KindLaws.{exit_is}
use Rattle.loopback.specs.Refusals.{received, trip_now}
use Rattle.loopback.specs.RoundTrip.{RoundTrip}
use Rattle.loopback.proofs.TripLaws.{promise_refused, not_refused, sending, reading_for, promise_for}
use Rattle.loopback.proofs.chain.round_trip.Goals as goal

pub returns-in_err-check : goal.returns-in_err-check
returns-in_err-check c =
    subst (RoundTrip c.args.s.now (received c.args.r) (trip_now c.args.lent) (trip_now c.args.lent)) (sym (exit_is _ _ c.from_residual.ensures.1))
    (promise_refused _ _ _ _ c.in_err-check.ensures)

pub send-requires : goal.send-requires
send-requires c = sending _ (received c.args.r) (trip_now c.args.lent) (not_refused _ _ _ c.in_ok-check.ensures)

pub read_message-requires : goal.read_message-requires
read_message-requires c =
    reading_for c.s.view_is (ap (λ x. x.code.map) c.s-inside.view_is) (not_refused _ (received c.args.r) (trip_now c.args.lent) c.in_ok-check.ensures)
    c.decode-answer.auto.lent.1.0

pub returns : goal.returns
returns c =
    promise_for c.s.view_is (ap (λ x. x.code.map) c.s-inside.view_is) (not_refused _ (received c.args.r) (trip_now c.args.lent) c.in_ok-check.ensures)
    c.send.ensures c.send.auto.samples c.demap.ensures c.decode-answer.ensures c.read_message.ensures
