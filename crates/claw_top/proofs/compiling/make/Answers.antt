use Rattle.fort_tree.specs.declared.choice.Mode.TheVariants.{Source}
use Rattle.column_rules.specs.Rules.{broken}
use Rattle.translated_programs.specs.NotBuilt.{unbuilt}
use Rattle.claw_top.specs.Outcome.{bytes_of}
use Rattle.claw_top.proofs.Translating.{is_translation}
use Rattle.claw_top.proofs.compiling.make.Goals as goal
use Rattle.sound_programs.proofs.Empties.{left_empty}

-- src/compiling.rt
pub translated-requires : goal.translated-requires
translated-requires c = left_empty (unbuilt c.args.program.now) (broken c.args.program.now) c.requires.built

pub returns-clause-compiles : goal.returns-clause-compiles
returns-clause-compiles c = is_translation
    (record {
      units = c.units_are_translated.ensures Source;
      interface = c.sound_programs_are_translated.ensures.interface Source;
      erased = c.sound_programs_are_translated.ensures.erased Source;
      spread = c.sound_programs_are_translated.ensures.spread Source;
      kept = c.sound_programs_are_translated.ensures.kept Source;
      orderly = c.sound_programs_are_translated.ensures.orderly Source;
      by_number = c.written_by_number.ensures.made;
      printable = c.programs_can_be_written.ensures.made;
      read = c.layouts_are_read.ensures.read;
      alone = c.layouts_spell_one_file.ensures.spelled;
    })
    (bytes_of c.args.sources.now) c.args.lines.now c.args.program.now c.in_ok-translated.field-0 c.requires.lines c.requires.spelled c.requires.sound c.requires.built c.in_ok-translated.ensures
