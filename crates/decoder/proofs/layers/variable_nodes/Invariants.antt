-- The variable nodes of the kernels before t are stored, and the count and what was taken off are those of these nodes.
use Rattle.std.proofs.Common.{◌≡◌, ◌*◌, ◌≤◌, ◌++◌}
use Rattle.vector.specs.Vector.{sum_to}
use Rattle.scms.specs.Nodes.{clipped, exceeding}
use Rattle.decoder.specs.Parts.{less_at, less_to}
use Rattle.decoder.proofs.LayerLaws.{StoredNodes}
use Rattle.decoder.proofs.layers.variable_nodes.Given as goal

abbrev pub invariant-loop-t : goal.invariant-loop-t
invariant-loop-t l =
    let block = l.fn.block in
    let source = l.frame ++ l.initial.work in
    record {
      nodes : StoredNodes block.at l.half l.frame l.initial.work (λ s. clipped block.cap (less_at block.at l.word source l.room s).rest) l.work l.t;
      counted : l.count ≡ sum_to l.t (λ s. exceeding block.cap (less_at block.at l.word source l.room s).rest);
      few : l.count ≤ 64 * l.t;
      takes : l.taken ≡ less_to block.at l.word source l.room l.t;
    }
