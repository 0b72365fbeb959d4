-- `ordered`: each product that is read is a symbol.
use Rattle.std.proofs.Common.{rules, ◌≡◌, List, ℕ, ◌%◌, ◌<◌, ◌∙◌, get_or, sym, ap, subst}
use Rattle.vector.proofs.Laws.{tabulate_ext}
use Rattle.gf64.proofs.ProductTableLaws.{symbols_lt}
use Rattle.reorder.proofs.LowLaws.{low_at}
use Rattle.gf64.specs.ProductTable.{symbols_of}
use Rattle.phi_order.specs.Order.{ordered_by}
use Rattle.phi_order.proofs.ordered.Goals as goal

pub gathered-requires : goal.gathered-requires
gathered-requires c =
    λ k l. subst (λ (row : List ℕ). get_or row k 0 < 64) (sym c.row_from-products.ensures) (symbols_lt _ _ k l)

pub returns : goal.returns
unfolding ordered_by
returns c =
    let a = c.args in
    let phi = a.phi.now in
    let row : c.row_from-products.result ≡ symbols_of a.table.now a.h = search rules in
    c.gathered.ensures
    ∙ tabulate_ext 64 _ _ (λ k l.
    ap (λ (row : List ℕ). get_or phi (get_or row k 0) 0 % 8192) row
    ∙ sym (low_at phi _ (symbols_lt a.table.now a.h k l)))
