use Rattle.checked_programs.proofs.SoundPrograms.{sound_of}
use Rattle.checked_programs.proofs.checking.check.Goals as goal

-- src/checking.rt
pub of-requires : goal.of-requires
of-requires c = record {
  sound = sound_of c.args.mode c.args.file (c.sound_or_a_first_fault.ensures.either c.args.mode c.args.file c.requires.nested) c.requires.names c.requires.calls c.in-Ok.ensures.sound;
  symbols = c.requires.symbols;
  graph = c.requires.graph;
}
