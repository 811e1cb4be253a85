-- Closures that may always be called.
pub use Rattle.starlark_syntax.proofs.tree.Callers.{may_always}
