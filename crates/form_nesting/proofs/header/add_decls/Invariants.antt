use Rattle.std.proofs.Common.{◌≡◌, ◌++◌}
use Rattle.form_nesting.proofs.header.add_decls.Given as goal

abbrev pub invariant-loop-decl : goal.invariant-loop-decl
invariant-loop-decl l = l.into ≡ l.initial.into ++ l.yielded
