-- The check nodes of the kernels before t are stored, and phi's vectors of these in the order of c.
use Rattle.std.proofs.Common.{◌++◌}
use Rattle.decoder.specs.Parts.{check_at, ordered_at}
use Rattle.decoder.proofs.LayerLaws.{StoredNodes, StoredFirst}
use Rattle.decoder.proofs.layers.check_nodes.Given as goal

abbrev pub invariant-loop-t : goal.invariant-loop-t
invariant-loop-t l =
    let source = l.frame ++ l.initial.work in
    record {
      nodes : StoredNodes l.fn.block.at l.half l.frame l.initial.work (check_at l.fn.block l.half l.coefs source) l.work l.t;
      ordered : StoredFirst l.half l.initial.room (ordered_at l.fn.block l.half l.coefs source) l.room l.t;
    }
