-- Lemmas for callers: `tree.Callers` has those on closures that are passed to a visitor.
pub use Rattle.starlark_tree.proofs as tree
pub use Rattle.starlark_passes.proofs.OutlineLemmas as outline
