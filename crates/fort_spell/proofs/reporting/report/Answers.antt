use Rattle.std.proofs.Common.{◌≡◌, ◌∙◌, ◌++◌, ap, sym}
use Rattle.std.specs.Option.{option_copied}
use Rattle.fort_tree.specs.Code.{code_text, code_meaning}
use Rattle.fort_tree.specs.Report.{position_text, details_text, report_of}
use Rattle.fort_spell.specs.Report.{name_at}
use Rattle.fort_spell.proofs.Streams.{put_both, put_as}
use Rattle.fort_spell.proofs.Reports.{bytes_as, bytes_ended, listed_name, report_parts}
use Rattle.fort_spell.proofs.reporting.report.Goals as goal

pub returns : goal.returns
returns g c =
    let file_is : c.as_bytes.result.now ≡ name_at c.args.files.now c.args.fault.now.place.file
    = c.as_bytes.ensures.value ∙ listed_name c.args.files.now c.args.fault.now.place.file c.unwrap-file.result.now (ap option_copied (sym c.unwrap-file.ensures) ∙ c.name.ensures) in
    let start = put_both _ _ (put_both _ _ (bytes_as _ _ c.put_bytes-so_far.ensures file_is) c.put_bytes-so_far-2.ensures) c.put_position-so_far.ensures in
    let code = put_both _ _ (put_both _ _ start c.put_bytes-so_far-3.ensures) (bytes_as _ (code_text c.args.fault.now.code) c.put_bytes-so_far-4.ensures (c.as_bytes-2.ensures.value ∙ c.text.ensures)) in
    let words = put_both _ _ (put_both _ _ code c.put_bytes-so_far-5.ensures) (bytes_as _ (code_meaning c.args.fault.now.code) c.put_bytes-so_far-6.ensures (c.as_bytes-3.ensures.value ∙ c.meaning.ensures)) in
    let all = put_as _ (λ k. report_of c.args.fault.now (name_at c.args.files.now c.args.fault.now.place.file) ++ k) (put_both _ _ (put_both _ _ words c.put_details-so_far.ensures) c.put_bytes.ensures)
    (λ k. report_parts (name_at c.args.files.now c.args.fault.now.place.file) (position_text c.args.fault.now.place) (code_text c.args.fault.now.code)
    (code_meaning c.args.fault.now.code) (details_text c.args.fault.now.code c.args.fault.now) k) in
    let end = bytes_ended _ _ _ _ _ (report_of c.args.fault.now (name_at c.args.files.now c.args.fault.now.place.file)) all in
    record { faults_later = end.later; took = end.took; part = end.part; failed = end.rose }
