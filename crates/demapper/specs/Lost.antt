-- Lost samples (document 02, request 02): a sample of −128 adds nothing for any symbol, as a sample of 0 does.
use Rattle.std.specs.Prelude.{ℕ, ◌+◌, ◌*◌, ◌/◌, ◌<◌, ◌≡◌, ◌⊎◌, List, ℤ, pos, length, get_or, replicate}
use Rattle.vector.specs.Vector.{vector_at}
use Rattle.demapper.specs.Samples.{lost, raw, llrs}
use Rattle.demapper.specs.Demap.{frame_of, Demapped}

-- two samples that are the same, or of which one is −128 and the other 0
abbrev pub SameOrLost : ℤ → ℤ → Type 0
SameOrLost x y = (x ≡ y) ⊎ (((x ≡ lost) × (y ≡ pos 0)) ⊎ ((x ≡ pos 0) × (y ≡ lost)))

-- two lists of samples that differ only in that some are −128 in the one and 0 in the other
pub record SameButLost (one other : List ℤ) : Type 0 where
  pub long : length one ≡ length other
  pub each : (j : ℕ) → j < length one → SameOrLost (get_or one j (pos 0)) (get_or other j (pos 0))

-- the two are weighed alike: each symbol i has the same raw penalty for every value s, and so the same 64 penalties,
-- for every base, gain and Qc; so the frame is the same, and `demap`, called with the one and with the other and the
-- same buffer, gives the same answer and leaves the same bytes
pub record WeighedAlike (one other : List ℤ) : Type 0 where
  pub raw_same : (base i s : ℕ) → i < length one / 64 → raw base (vector_at one i) s ≡ raw base (vector_at other i) s
  pub llrs_same : (base top bottom qc i : ℕ) → i < length one / 64
      → llrs base top bottom qc (vector_at one i) ≡ llrs base top bottom qc (vector_at other i)
  pub frame_same : (base top bottom qc : ℕ) → frame_of base top bottom qc one ≡ frame_of base top bottom qc other
  pub call_same : (base top bottom qc : ℕ) (buffer after after₂ : List ℕ) (r r₂ : ℕ)
      → Demapped base top bottom qc one buffer after r → Demapped base top bottom qc other buffer after₂ r₂
      → (r ≡ r₂) × (after ≡ after₂)

-- the statement
abbrev pub LostAsZero : (one other : List ℤ) → Type 0
LostAsZero one other = SameButLost one other → WeighedAlike one other

-- all 64 samples of symbol i were lost
abbrev pub SymbolLost : List ℤ → ℕ → Type 0
SymbolLost samples i = (k : ℕ) → k < 64 → get_or samples (64 * i + k) (pos 0) ≡ lost

-- all samples were lost
abbrev pub AllLost : List ℤ → Type 0
AllLost samples = (j : ℕ) → j < length samples → get_or samples j (pos 0) ≡ lost

-- a symbol whose samples were all lost has 64 zeros; so a frame all of whose samples were lost has them at each place
pub record LostZeros (base top bottom qc : ℕ) (samples : List ℤ) : Type 0 where
  pub symbol_zeros : (i : ℕ) → i < length samples / 64 → SymbolLost samples i
      → vector_at (frame_of base top bottom qc samples) i ≡ replicate 64 0
  pub frame_zeros : AllLost samples → (i : ℕ) → i < length samples / 64
      → vector_at (frame_of base top bottom qc samples) i ≡ replicate 64 0
