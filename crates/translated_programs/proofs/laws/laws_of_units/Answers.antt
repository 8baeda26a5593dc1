use Rattle.translated_programs.proofs.laws.laws_of_units.Goals as goal

-- src/laws.rt
pub returns : goal.returns
returns c = record {
  built = c.built_units_are_column_scalars.ensures;
  standing = c.where_units_stand.ensures.among;
  widened_is = c.widened_is_wide_unit.ensures;
  keeps = c.keeps_columns_anywhere.ensures;
  apart = c.runs_no_marked_loop.ensures.apart;
  varying = c.unit_made_for_all_columns.ensures.varying;
  interface = c.unit_made_for_all_columns.ensures.interface;
  erased = c.unit_made_for_all_columns.ensures.erased;
  spread = c.unit_made_for_all_columns.ensures.spread;
  routine = c.unit_made_for_all_columns.ensures.routine;
  column_translated = c.column_units_translated.ensures;
  plain_kept = c.plain_units_kept.ensures.kept;
  plain_apart = c.plain_units_kept.ensures.apart;
  plain_interface = c.plain_units_written.ensures.interface;
  plain_erased = c.plain_units_written.ensures.erased;
  plain_unmarked = c.plain_units_written.ensures.unmarked;
  plain_routine = c.plain_units_written.ensures.routine;
}
