use Rattle.std.proofs.Common.{◌≡◌, ◌++◌, map, length}
use Rattle.std.specs.Vec.Iter.{into_iter_items, into_iter_len}
use Rattle.form_nesting.specs.declared.form.Form.TheVariants as given
use Rattle.fort_units.specs.Program.{item_of_directive}
use Rattle.fort_units.proofs.gathering.Gathered.add_directives.Given as goal

-- with the directives that are left, what is there comes out the same as with all
abbrev pub invariant-loop-directive : goal.invariant-loop-directive
invariant-loop-directive l = record {
  counted : into_iter_len l.directive-iterator ≡ length (into_iter_items l.directive-iterator);
  items : l.self.items ++ map (item_of_directive l.within) (into_iter_items l.directive-iterator) ≡ l.initial.self.items ++ map (item_of_directive l.within) l.fn.directives;
  forms : l.self.forms ++ map (λ d. given.Directs d) (into_iter_items l.directive-iterator) ≡ l.initial.self.forms ++ map (λ d. given.Directs d) l.fn.directives;
  least : l.self.least ≡ l.initial.self.least;
}
