use Rattle.std.proofs.Common.{◌≡◌, true, map, refl, ◌∙◌, ap}
use Rattle.bk_machine.specs.World.{log_of}
use Rattle.bk_machine.specs.statements.Backup.{base_lsn}
use Rattle.bk_world.specs.declared.database.FileSpec.{FileSpec}
use Rattle.bk_world.specs.Lines.{log_below}
use Rattle.bk_world.specs.Telling as telling
use Rattle.bk_kept.specs.declared.kept.Database.{Database as KeptDatabase}
use Rattle.bk_kept.specs.ViewsLaws.{shows-as}
use Rattle.bk_media_plans.proofs.headers.set_header.Goals as goal

pub returns : goal.returns
unfolding log_of
returns c = λ w shows.
    let shown = shows-as (ap (λ (d : KeptDatabase). d.shown) c.database.view_is) shows in
    let model : c.model.result ≡ telling.model (log_below w.history c.args.database.now.path c.args.database.now.shown.end) = c.model.ensures c.args.database.now.files (log_below w.history c.args.database.now.path c.args.database.now.shown.end) shown in
    let family = ap (λ (d : KeptDatabase). d.family) c.database.view_is in
    let base = c.base_lsn.ensures ∙ ap (λ (d : KeptDatabase). base_lsn d.base) c.database.view_is in
    let name = c.in_ok-copy.ensures ∙ ap (λ (d : KeptDatabase). d.name) c.database.view_is in
    let given = c.in_ok-copy-2.ensures in
    let path = c.in_ok-copy-3.ensures ∙ ap (λ (d : KeptDatabase). d.path) c.database.view_is in
    let groups : c.in_ok-copy_groups.field-0 ≡ c.args.database.now.groups = c.in_ok-copy_groups.ensures ∙ c.as_slice.ensures ∙ ap (λ (d : KeptDatabase). d.groups) c.database.view_is in
    let files : c.in_ok-header_files.field-0 ≡ map (λ (file : FileSpec). record { spec = file; in_set = true }) c.args.database.now.files =
    c.in_ok-header_files.ensures ∙ ap (map (λ (file : FileSpec). record { spec = file; in_set = true })) (c.as_slice-2.ensures ∙ ap (λ (d : KeptDatabase). d.files) c.database.view_is) in
    let log_name = c.in_ok-copy-4.ensures ∙ ap (λ (d : KeptDatabase). d.log_name) c.database.view_is in
    let log_path = c.in_ok-copy-5.ensures ∙ ap (λ (d : KeptDatabase). d.log_path) c.database.view_is in
    rw (model, family, base, name, given, path, groups, files, log_name, log_path) refl
