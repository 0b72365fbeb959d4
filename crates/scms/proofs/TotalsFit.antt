-- The totals are bounded, clipped or not: by halves, and so in document 01's indices.
use mathlib.Core.Path.{◌≡◌, sym, ap, ◌∙◌, subst}
use mathlib.Core.List.{List}
use Prim.Native.Nat.{ℕ, zero, suc, ◌+◌, ◌*◌, ◌/◌, ◌^◌, ◌≤◌}
use native.Mathlib.Nat.{mul-add, add-mul, suc-mul}
use native.Mathlib.Omega.{arith}
use lib.ListN.{get_or}
use Rattle.vector.specs.Vector.{HasZero, AtMost}
use Rattle.gf64.specs.Field.{NonZero}
use Rattle.polar_code.specs.Code.{Code}
use Rattle.polar.specs.Tree.{Tree, map3, map4, tree_sum, tree_of, All, Place, here, first, second, at, number}
use Rattle.polar.specs.Halves.{Coefs, coefs_at}
use Rattle.polar.proofs.Numbers.{two_pow}
use Rattle.polar.proofs.TreeLaws.{number_lt, place_of, map1_at, all_by, leaves_number}
use Rattle.polar.proofs.OneToOne.{Symbol, AllNonZero, coefs_nonzero}
use Rattle.scms.specs.Mode.{Mode, TriesOne}
use Rattle.scms.specs.Totals.{EachZero, EachAtMost}
use Rattle.scms.specs.Claims.{TotalsFit}
use Rattle.scms.specs.Halves.{Vectors, check_nodes, variable_nodes, taken_nodes, decode_tree, frame_tree, decode_halves, check_nodes_by, decode_tree_by}
use Rattle.scms.proofs.NodeLaws.{check_zero, check_most, variable_zero, variable_most, rest_most, taken_most}
use Rattle.scms.proofs.Bounds.{twice}
use Rattle.scms.proofs.TreeDecoder.{decoded_word}
use Rattle.scms.proofs.TreeLists.{frame_at}
use Rattle.scms.proofs.ByHalves.{same_answer}

-- a vector that holds a 0 and no entry above a number
abbrev pub Bounded : ℕ → List ℕ → Type 0
Bounded most v = HasZero v × AtMost most v

-- ---- the nodes that join two halves

-- check nodes raise nothing
check_bounded : (m most candidates : ℕ) (h : Tree ℕ m) (f g : Vectors m) → 1 ≤ candidates → All m NonZero h → All m (Bounded most) f → All m (Bounded most) g
    → All m (Bounded most) (check_nodes m candidates h f g)
unfolding check_nodes_by map3 All
check_bounded zero most candidates h f g one nz bf bg =
    (check_zero candidates h f g one nz bf.0 bg.0, check_most most candidates h f g one nz bf.1 bg.0)
check_bounded (suc m) most candidates h f g one nz bf bg = (
  check_bounded m most candidates h.0 f.0 g.0 one nz.0 bf.0 bg.0,
  check_bounded m most candidates h.1 f.1 g.1 one nz.1 bf.1 bg.1,
)

-- variable nodes at most double
variable_bounded : (m most cap : ℕ) (h : Tree ℕ m) (f g : Vectors m) (u : Tree ℕ m) → All m Symbol u → All m (Bounded most) f → All m (Bounded most) g
    → All m (Bounded (most + most)) (variable_nodes m cap h f g u)
unfolding variable_nodes map4 All
variable_bounded zero most cap h f g u lu bf bg =
    (variable_zero cap h u f g, variable_most (most + most) cap h u f g (rest_most most h u f g lu bf.1 bg.1))
variable_bounded (suc m) most cap h f g u lu bf bg = (
  variable_bounded m most cap h.0 f.0 g.0 u.0 lu.0 bf.0 bg.0,
  variable_bounded m most cap h.1 f.1 g.1 u.1 lu.1 bf.1 bg.1,
)

-- and what each takes off is at most the number
nodes_taken : (m most : ℕ) (h : Tree ℕ m) (f g : Vectors m) (u : Tree ℕ m) → All m NonZero h → All m Symbol u → All m (Bounded most) f
    → All m (Bounded most) g → taken_nodes m h f g u ≤ most * 2 ^ m
unfolding taken_nodes tree_sum map4 All
nodes_taken zero most h f g u nz lu bf bg = let t = taken_most most h u f g nz lu bf.1 bg.0 in omega arith
nodes_taken (suc m) most h f g u nz lu bf bg =
    let a = nodes_taken m most h.0 f.0 g.0 u.0 nz.0 lu.0 bf.0 bg.0 in
    let b = nodes_taken m most h.1 f.1 g.1 u.1 nz.1 lu.1 bf.1 bg.1 in
    let e = twice most m in
    omega arith

-- ---- a block: twice what is taken off along a place's line

-- with one layer more, whose nodes took off t
more_taken : (m most x t : ℕ) → t ≤ most * 2 ^ m → x * 2 ≤ m * (most * 2 ^ m) + m * (most * 2 ^ m) → (x + t) * 2 ≤ suc m * (most * 2 ^ suc m)
more_taken m most x t lt lx =
    let p = most * 2 ^ m in
    let e : suc m * (most * 2 ^ suc m) ≡ m * p + m * p + (p + p)
    = ap (λ (y : ℕ). suc m * y) (twice most m) ∙ suc-mul m (p + p) ∙ ap (λ (y : ℕ). y + (p + p)) (mul-add m p p) in
    omega arith

-- at most m × most × 2^m
pub block_fits : {m : ℕ} (p : Place m) (mode : Mode) (k : Coefs m) (map : Tree ℕ m) (f : Vectors m) (most : ℕ) → TriesOne mode → AllNonZero m k → All m (Bounded most) f
    → at (decode_tree m mode k map f).taken p * 2 ≤ m * (most * 2 ^ m)
unfolding decode_tree_by at AllNonZero All
block_fits here mode k map f most one nz bf = omega arith
block_fits (first {m} p) mode k map f most one nz bf =
    let c = check_nodes m mode.candidates k.0 f.0 f.1 in
    let x = at (decode_tree m mode k.1 map.0 c).taken p in
    let ih = block_fits p mode k.1 map.0 c most one nz.1 (check_bounded m most mode.candidates k.0 f.0 f.1 one nz.0 bf.0 bf.1) in
    let e = more_taken m most x 0 (omega arith) (omega arith) in
    omega arith
block_fits (second {m} p) mode k map f most one nz bf =
    let c = check_nodes m mode.candidates k.0 f.0 f.1 in
    let a = decode_tree m mode k.1 map.0 c in
    let w = decoded_word m mode k.1 map.0 c in
    let v = variable_nodes m mode.cap k.0 f.0 f.1 a.word in
    let b = decode_tree m mode k.2 map.1 v in
    let t = taken_nodes m k.0 f.0 f.1 a.word in
    let ih = block_fits p mode k.2 map.1 v (most + most) one nz.2 (variable_bounded m most mode.cap k.0 f.0 f.1 a.word w bf.0 bf.1) in
    let e : m * ((most + most) * 2 ^ m) ≡ m * (most * 2 ^ m) + m * (most * 2 ^ m)
    = ap (λ (y : ℕ). m * y) (add-mul most most (2 ^ m)) ∙ mul-add m (most * 2 ^ m) (most * 2 ^ m) in
    let r = more_taken m most (at b.taken p) t (nodes_taken m most k.0 f.0 f.1 a.word nz.0 w bf.0 bf.1) (omega arith) in
    subst (λ (y : ℕ). y * 2 ≤ suc m * (most * 2 ^ suc m)) (sym (map1_at (λ x. x + t) p b.taken)) r

-- ---- the whole word

-- half of n × most × 2^n
half_most : (n most x : ℕ) → x * 2 ≤ n * (most * 2 ^ n) → x ≤ n * (most * (2 ^ n / 2))
half_most zero most x l = omega arith
half_most (suc d) most x l =
    let q : 2 ^ suc d / 2 ≡ 2 ^ d = (let e = two_pow d in omega arith) in
    let e : suc d * (most * 2 ^ suc d) ≡ suc d * (most * 2 ^ d) + suc d * (most * 2 ^ d)
    = ap (λ (y : ℕ). suc d * y) (twice most d) ∙ mul-add (suc d) (most * 2 ^ d) (most * 2 ^ d) in
    subst (λ (y : ℕ). x ≤ suc d * (most * y)) (sym q) (omega arith)

-- a frame's vectors
pub frame_bounded : (n most : ℕ) (frame : List ℕ) → EachZero n frame → EachAtMost n most frame → All n (Bounded most) (frame_tree n frame)
frame_bounded n most frame z mf = all_by (Bounded most) n (frame_tree n frame) (λ p.
    subst (Bounded most) (sym (frame_at n frame p)) (z (number p) (number_lt p), mf (number p) (number_lt p)))

-- the totals
pub totals_fit : (most : ℕ) (code : Code) (mode : Mode) (frame : List ℕ) → TotalsFit most code mode frame
unfolding decode_halves
totals_fit most code mode frame one g z mf i l =
    let n = code.n in
    let p = (place_of n i l).0 in
    let fits = block_fits p mode (coefs_at n 0 (2 ^ n / 2) code.coefs) (tree_of 0 n code.map) (frame_tree n frame) most one
    (coefs_nonzero n 0 (2 ^ n / 2) code.coefs g) (frame_bounded n most frame z mf) in
    let e = ap (λ (x : List ℕ). get_or x i 0) (sym (same_answer code mode frame).same_totals) ∙ leaves_number 0 n i l (decode_halves code mode frame).taken in
    half_most n most _ (subst (λ (y : ℕ). y * 2 ≤ n * (most * 2 ^ n)) (sym e) fits)
