-- The laws of a vector that is translated by a symbol: its entries i and i ⊕ u exchanged, by the three low bits of u within eight
-- neighbours, and by the three high bits eight by eight.
use mathlib.Core.Path.{◌≡◌, refl, sym, ap, ap₂, ◌∙◌}
use mathlib.Core.List.{List}
use Prim.Native.Nat.{ℕ, zero, suc, ◌+◌, ◌-◌, ◌*◌, ◌/◌, ◌%◌, ◌≤◌, ◌<◌}
use native.Mathlib.Nat.{zero-mul}
use native.Mathlib.Omega.{arith}
use lib.Bits.{xor_lt, xor_zero_r, xor_shifted, xor_block}
use lib.ListN.{length, get_or}
use Rattle.gf64.specs.Field.{◌⊕◌}
use Rattle.gf64.proofs.SumLaws.{sum_comm}
use Rattle.scms.specs.Nodes.{sum_at}
use Rattle.reorder.specs.Order.{swapped}
use Rattle.reorder.proofs.SwapLaws.{source_plain, swapped_at, swapped_none, swapped_again}

-- the low bits of a number, one by one: together they are the three low bits
pub low_bits_sum : (u : ℕ) → (u / 4 % 2 * 4) ⊕ ((u / 2 % 2 * 2) ⊕ (u % 2)) ≡ u % 8
unfolding ◌⊕◌
low_bits_sum u =
    let two : u / 2 % 2 * 2 + u % 2 ≡ u % 4 = omega arith in
    let three : u / 4 % 2 * 4 + u % 4 ≡ u % 8 = omega arith in
    ap (λ (z : ℕ). (u / 4 % 2 * 4) ⊕ z) (xor_shifted (u / 2 % 2) 1 (u % 2) (omega arith))
    ∙ xor_shifted (u / 4 % 2) 2 (u / 2 % 2 * 2 + u % 2) (omega arith)
    ∙ omega arith

-- where a bit is 1 the copy with entries at a distance exchanged is the copy by bit times distance
pub swapped_one : (v : List ℕ) (bit run : ℕ) → bit ≡ 1 → run < 8 → swapped v (run % 8) ≡ swapped v (bit * run)
swapped_one v bit run e l = ap (swapped v) (let s : run % 8 ≡ 1 * run = omega arith in s ∙ ap (λ (b : ℕ). b * run) (sym e))

-- and where it is 0 the vector itself is
pub swapped_zero : (v : List ℕ) (bit run : ℕ) → bit < 2 → (bit ≡ 1 → ⊥) → length v ≡ 64 → v ≡ swapped v (bit * run)
swapped_zero v zero run l n e = swapped_none v e ∙ ap (swapped v) (sym (zero-mul run))
swapped_zero v (suc zero) run l n e = absurd (n refl)
swapped_zero v (suc (suc b)) run l n e = absurd (omega arith)

-- a copy by each of the three low bits in turn is the copy by all three
pub swapped_bits : (v v1 v2 w : List ℕ) (u : ℕ) → v1 ≡ swapped v (u % 2 * 1) → v2 ≡ swapped v1 (u / 2 % 2 * 2) → w ≡ swapped v2 (u / 4 % 2 * 4) → w ≡ swapped v (u % 8)
swapped_bits v v1 v2 w u e1 e2 e3 =
    let one : u % 2 * 1 ≡ u % 2 = omega arith in
    swapped_again v ((u / 2 % 2 * 2) ⊕ (u % 2)) (u / 4 % 2 * 4) e3 (swapped_again v (u % 2) (u / 2 % 2 * 2) e2 (e1 ∙ ap (swapped v) one) (omega arith) refl) (omega arith)
    (low_bits_sum u)

-- the place b ⊕ u, by the blocks of eight: u's high bits name the block, its low bits the place there
block_place : (u block i : ℕ) → i < 8 → (8 * (block ⊕ (u / 8)) + i) ⊕ (u % 8) ≡ (8 * block + i) ⊕ u
unfolding ◌⊕◌
block_place u block i l =
    let read = block ⊕ (u / 8) in
    let low : u % 8 ≡ 0 * 8 + u % 8 = omega arith in
    let from : 8 * read + i ≡ read * 8 + i = omega arith in
    let place : block * 8 + i ≡ 8 * block + i = omega arith in
    let both : u / 8 * 8 + u % 8 ≡ u = omega arith in
    ap₂ ◌⊕◌ from low
    ∙ xor_block 3 read 0 i (u % 8) l (omega arith)
    ∙ ap (λ (z : ℕ). z * 8 + (i ⊕ (u % 8))) (xor_zero_r read)
    ∙ sym (xor_block 3 block (u / 8) i (u % 8) l (omega arith))
    ∙ ap₂ ◌⊕◌ place both

-- an entry of a vector that was translated by the low bits, read eight by eight by the high ones
pub translated_at : {t : List ℕ} (theta : List ℕ) (u block b : ℕ) → t ≡ swapped theta (u % 8) → u < 64 → block < 8 → 8 * block ≤ b → b < 8 * block + 8
    → get_or t ((8 * (block ⊕ (u / 8)) + (b - 8 * block)) ⊕ (0 % 64)) 0 ≡ get_or theta (b ⊕ u) 0
unfolding ◌⊕◌
translated_at {t} theta u block b e lu lb p q =
    let i = b - 8 * block in
    let at = 8 * (block ⊕ (u / 8)) + i in
    let within = xor_lt 3 block (u / 8) lb (omega arith) in
    let whole : 8 * block + i ≡ b = omega arith in
    ap (λ (k : ℕ). get_or t k 0) (source_plain (8 * (block ⊕ (u / 8))) i)
    ∙ ap (λ (v : List ℕ). get_or v at 0) e
    ∙ swapped_at theta (u % 8) at (omega arith)
    ∙ ap (λ (k : ℕ). get_or theta k 0) (block_place u block i (omega arith) ∙ ap (λ (k : ℕ). k ⊕ u) whole)

-- a sum of a variable node, from the vector that was translated by u
pub translated_sum : {t : List ℕ} (theta ordered : List ℕ) (u c : ℕ) → t ≡ swapped theta u → c < 64 → get_or t c 0 + get_or ordered c 0 ≡ sum_at theta ordered u c
translated_sum theta ordered u c e l =
    ap (λ (v : List ℕ). get_or v c 0 + get_or ordered c 0) e
    ∙ ap (λ (y : ℕ). y + get_or ordered c 0) (swapped_at theta u c l ∙ ap (λ (k : ℕ). get_or theta k 0) (sum_comm c u))
