use Rattle.std.proofs.Common.{◌≡◌, ◌∙◌, ◌++◌, List, [], ap, map, sym, subst}
use Rattle.bk_known.specs.declared.known.Known.{Known}
use Rattle.bk_known.specs.Known.{IsKnown, known_bytes}
use Rattle.bk_world.specs.declared.database.FileSpec.{FileSpec}
use Rattle.bk_store.specs.Making.{first_known}
use Rattle.bk_store.specs.Store.{IsStore}
use Rattle.bk_store.specs.Told.{data_file, unsaid}
use Rattle.bk_store.proofs.Founded.{made-crash, made-stands}
use Rattle.bk_store.proofs.making.make_paged.Goals as goal

pub returns-in_err-paged-clause-crash : goal.returns-in_err-paged-clause-crash
returns-in_err-paged-clause-crash g c t =
    let spec = c.args.known.now.spec in
    let a = g.D.Device.disk c.args.dev.now in
    let b = g.D.Device.disk c.make.new.dev in
    let is : IsKnown (first_known spec) = subst IsKnown c.requires.first c.in_ok-bytes.ensures.fits in
    let files_are : c.in_ok-files.files.items ≡ map data_file spec.storage.files = c.in_ok-files.ensures ∙ ap (λ (fs : List FileSpec). map data_file fs) c.as_slice.ensures in
    let bytes_are : c.deref-3.result.now ≡ known_bytes (first_known spec) ++ [] = c.deref-3.ensures.value ∙ c.in_ok-bytes.ensures.bytes ∙ ap (λ (k : Known). known_bytes k ++ []) c.requires.first in
    made-crash c.args.db spec c.in_ok-files.files.items c.deref-3.result.now a b c.requires.may is files_are bytes_are (c.make.ensures.crash t)

pub returns-clause-crash : goal.returns-clause-crash
returns-clause-crash g c t =
    let spec = c.args.known.now.spec in
    let a = g.D.Device.disk c.args.dev.now in
    let b = g.D.Device.disk c.make.new.dev in
    let is : IsKnown (first_known spec) = subst IsKnown c.requires.first c.in_ok-bytes.ensures.fits in
    let files_are : c.in_ok-files.files.items ≡ map data_file spec.storage.files = c.in_ok-files.ensures ∙ ap (λ (fs : List FileSpec). map data_file fs) c.as_slice.ensures in
    let bytes_are : c.deref-3.result.now ≡ known_bytes (first_known spec) ++ [] = c.deref-3.ensures.value ∙ c.in_ok-bytes.ensures.bytes ∙ ap (λ (k : Known). known_bytes k ++ []) c.requires.first in
    made-crash c.args.db spec c.in_ok-files.files.items c.deref-3.result.now a b c.requires.may is files_are bytes_are (c.make.ensures.crash t)

pub returns-clause-stands : goal.returns-clause-stands
returns-clause-stands g c t shown shows =
    let spec = c.args.known.now.spec in
    let a = g.D.Device.disk c.args.dev.now in
    let b = g.D.Device.disk c.make.new.dev in
    let is : IsKnown (first_known spec) = subst IsKnown c.requires.first c.in_ok-bytes.ensures.fits in
    let files_are : c.in_ok-files.files.items ≡ map data_file spec.storage.files = c.in_ok-files.ensures ∙ ap (λ (fs : List FileSpec). map data_file fs) c.as_slice.ensures in
    let bytes_are : c.deref-3.result.now ≡ known_bytes (first_known spec) ++ [] = c.deref-3.ensures.value ∙ c.in_ok-bytes.ensures.bytes ∙ ap (λ (k : Known). known_bytes k ++ []) c.requires.first in
    subst (λ (k : Known). IsStore b (record { paged = c.in_ok-paged.paged; shown = shown; known = k; note = [] }) (unsaid spec [])) (sym c.requires.first)
    (made-stands spec c.in_ok-files.files.items c.deref-3.result.now c.in_ok-paged.paged shown b c.requires.may is files_are bytes_are (c.in_ok-paged.ensures.stands t) c.in_ok-paged.ensures.ends.0 shows)
