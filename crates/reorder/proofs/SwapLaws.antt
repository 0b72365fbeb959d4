-- The laws of a vector with entries exchanged.
use mathlib.Core.Path.{◌≡◌, sym, ap, ◌∙◌, subst}
use mathlib.Core.List.{List}
use Prim.Native.Nat.{ℕ, ◌+◌, ◌%◌, ◌≤◌, ◌<◌}
use native.Mathlib.Omega.{arith}
use lib.ListN.{length, get_or}
use Rattle.vector.proofs.Laws.{length_tabulate, get_d_tabulate, tabulate_ext, tabulate_by}
use Rattle.gf64.specs.Field.{◌⊕◌}
use Rattle.gf64.proofs.SumLaws.{sum_lt, sum_assoc, sum_zero}
use Rattle.reorder.specs.Order.{Small, Mapped, swapped}

-- with no run the entries of a part are those of the other from its first on
pub source_plain : (from i : ℕ) → (from + i) ⊕ (0 % 64) ≡ from + i
source_plain from i = sum_zero (from + i)

-- a copy has 64 entries
pub swapped_long : (v : List ℕ) (run : ℕ) → length (swapped v run) ≡ 64
unfolding swapped
swapped_long v run = length_tabulate 64 (λ i. get_or v (i ⊕ run) 0)

-- a vector all of whose entries are those of a copy is the copy
pub swapped_by : (v : List ℕ) (run n : ℕ) (before after : List ℕ) → Mapped (λ b _. get_or v (b ⊕ run) 0) 0 n before after → 64 ≤ n → after ≡ swapped v run
unfolding swapped
swapped_by v run n before after m l = tabulate_by 0 64 _ _ m.long (λ i s. m.done i (omega arith) (omega arith))

-- its entry i
pub swapped_at : (v : List ℕ) (run i : ℕ) → i < 64 → get_or (swapped v run) i 0 ≡ get_or v (i ⊕ run) 0
unfolding swapped
swapped_at v run i l = get_d_tabulate 0 64 (λ i. get_or v (i ⊕ run) 0) i l

-- a copy of a copy
pub swapped_twice : (v : List ℕ) (run other : ℕ) → other < 64 → swapped (swapped v run) other ≡ swapped v (other ⊕ run)
unfolding swapped
swapped_twice v run other l =
    tabulate_ext 64 _ _ (λ i s. get_d_tabulate 0 64 (λ i. get_or v (i ⊕ run) 0) (i ⊕ other) (sum_lt i other s l) ∙ ap (λ (k : ℕ). get_or v k 0) (sum_assoc i other run))

-- a vector is its own copy 0
pub swapped_none : (v : List ℕ) → length v ≡ 64 → v ≡ swapped v 0
unfolding swapped
swapped_none v e = tabulate_by 0 64 _ v e (λ i l. ap (λ (k : ℕ). get_or v k 0) (sym (sum_zero i)))

-- a copy of a copy that was made before
pub swapped_again : {u w : List ℕ} {both : ℕ} (v : List ℕ) (run other : ℕ) → w ≡ swapped u other → u ≡ swapped v run → other < 64 → other ⊕ run ≡ both → w ≡ swapped v both
swapped_again {u} {w} v run other e f l s = e ∙ ap (λ (z : List ℕ). swapped z other) f ∙ swapped_twice v run other l ∙ ap (swapped v) s

-- a copy's entries are no larger
pub swapped_small : {t : List ℕ} (theta : List ℕ) (run : ℕ) → run < 64 → t ≡ swapped theta run → Small theta → Small t
swapped_small theta run l e s = subst Small (sym e) (record {
  long = swapped_long theta run;
  most = λ b h. subst (λ (k : ℕ). k ≤ 8191) (sym (swapped_at theta run b h)) (s.most (b ⊕ run) (sum_lt b run h l));
})
