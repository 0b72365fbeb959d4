-- What the decoder needs of a frame that is accepted.
use Prim.Native.Nat.{ℕ, ◌+◌, ◌*◌, ◌-◌, ◌^◌, ◌≤◌}
use mathlib.Core.List.{List}
use native.Mathlib.Nat.{le_refl}
use native.Mathlib.Omega.{arith}
use lib.Pow.{pow_mono}
use Rattle.vector.proofs.SliceLaws.{vector_entry}
use Rattle.polar_code.specs.Code.{Code}
use Rattle.scms.specs.Mode.{cap_of}
use Rattle.scms.specs.Totals.{EachZero, EachAtMost}
use Rattle.decoder_refusal.specs.Refusals.{Settings, Lent, Decodable}

module _ {code : Code} {settings : Settings} {frame : List ℕ} {lent : Lent} (t : Decodable code settings frame lent) where
  -- each vector holds a 0
  pub each_zero : EachZero code.n frame
  each_zero i l = t.is_frame.zeros i (let long = t.frame_long in omega arith)

  -- no entry is above a number that is 2^Qc − 1 or more
  each_most : (most : ℕ) → 2 ^ settings.qc - 1 ≤ most → EachAtMost code.n most frame
  each_most most h i l b s =
      let long = t.frame_long in
      let e = vector_entry frame i b s in
      let m = t.is_frame.small (64 * i + b) (omega arith) in
      omega arith

  -- such as that itself
  pub each_qc : EachAtMost code.n (2 ^ settings.qc - 1) frame
  each_qc = each_most (2 ^ settings.qc - 1) (le_refl (2 ^ settings.qc - 1))

  -- so none is above the cap, since Qc is at most Qm
  pub each_cap : EachAtMost code.n (cap_of settings.qm) frame
  unfolding cap_of
  each_cap =
      each_most (2 ^ settings.qm - 1) (let p = pow_mono {i = settings.qc} {j = settings.qm} t.internal_precision.least in omega arith)

  -- or above 31, since Qc is at most 5
  pub each_31 : EachAtMost code.n 31 frame
  each_31 = each_most 31 (let p = pow_mono {i = settings.qc} {j = 5} t.channel_precision.most in omega arith)
