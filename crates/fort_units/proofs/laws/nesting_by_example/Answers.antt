use Rattle.std.proofs.Common.{refl}
use Rattle.fort_units.proofs.laws.nesting_by_example.Goals as goal

pub returns-clause-statements : goal.returns-clause-statements
returns-clause-statements c = record { nothing = refl; loop = refl; exit_in_no_loop = refl; end_do_without_do = refl; late_declaration = refl; before_case = refl; default_twice = refl; no_case = refl; contains_nothing = refl; other_name = refl; other_word = refl; unended = refl; across_files = refl }

pub returns-clause-before_statements : goal.returns-clause-before_statements
returns-clause-before_statements c = record { before_loop = refl; before_assignment = refl; before_call = refl; before_if_call = refl; second = refl; block_between = refl; at_the_end = refl; within = refl }

pub returns-clause-heads : goal.returns-clause-heads
returns-clause-heads c = record { both = refl; alone = refl; partner_misplaced = refl; twice = refl; in_function = refl }

pub returns-clause-blocks : goal.returns-clause-blocks
returns-clause-blocks c = record { closed = refl; across_lists = refl; not_innermost = refl; before_declaration = refl; before_case = refl; unclosed = refl; outside = refl }

pub returns-clause-marks : goal.returns-clause-marks
returns-clause-marks c = record { in_source = refl; directive_in_target = refl; loop = refl; exit = refl; exit_of_inner = refl; return_in_inner = refl; routine = refl; early_routine = refl; routine_twice = refl; late_routine = refl }

pub returns-clause-limits : goal.returns-clause-limits
returns-clause-limits c = record { at_limit = refl; one_line = refl; in_target = refl; block = refl }
