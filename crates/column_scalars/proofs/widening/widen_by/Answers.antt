use Rattle.std.proofs.Common.{List, [], ◌∷◌, ◌++◌, map, ap, ◌∙◌}
use Rattle.claw_meaning.specs.Syntax as plain
use Rattle.claw_meaning.specs.Plain.{plain_directive, plain_option}
use Rattle.column_scalars.specs.Scalars.{local_decl}
use Rattle.column_scalars.specs.Widened.{first_name, listed, bare_name, added_decl}
use Rattle.column_scalars.proofs.WideTrees.{unit_is, decls_are}
use Rattle.column_scalars.proofs.widening.widen_by.Goals as goal

-- src/widening.rt
pub returns : goal.returns
returns c =
    let last : plain.Decl = local_decl (first_name c.args.define.now.names) in
    let first : List plain.Decl = map added_decl (listed (bare_name (plain_option c.args.define.now.upper))) in
    unit_is c.args.unit.now.name c.args.unit.now.at c.in_ok-wide_dummies.field-0 c.new.result c.in_ok-wide_decls.field-0 c.new-2.result c.in_ok-wide_body.field-0 _ _ _
    c.in_ok-wide_dummies.ensures c.new.ensures
    (c.in_ok-wide_decls.ensures ∙ ap (λ (ds : List plain.Decl). first ++ (ds ++ last ∷ [])) (decls_are (plain_directive c.args.define.now) c.args.unit.now.decls))
    c.new-2.ensures c.in_ok-wide_body.ensures
