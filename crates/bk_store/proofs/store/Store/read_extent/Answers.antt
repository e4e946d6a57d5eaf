use Rattle.std.proofs.Common.{ℕ, ◌∙◌, ap, arith, map, refl, sym, subst}
use Rattle.bk_device.specs.Laws.{cause_then}
use Rattle.bk_facts.specs.declared.facts.Facts.{Facts}
use Rattle.bk_paged.specs.Holds.{IsStored}
use Rattle.bk_paged.specs.Names.{pages_in}
use Rattle.bk_paged.specs.Paged.{Standing}
use Rattle.bk_paths.specs.Paths.{end_of}
use Rattle.bk_undo.specs.Spelled.{spelled}
use Rattle.bk_store.specs.LiftLaws.{moved-stands}
use Rattle.bk_store.specs.TouchLaws.{touches-then, unmoved-touches}
use Rattle.bk_store.proofs.Copied.{copying-begins, copying-crash, copying-ends, copying-more}
use Rattle.bk_store.proofs.store.Store.read_extent.Goals as goal

pub pages-init : goal.pages-init
pages-init g c = record {
  within = omega arith;
  copying = copying-begins g.D.Device.tells c.args.file c.args.extent (g.D.Device.disk c.args.dev.now) (g.D.Device.disk c.at_rest.new.dev) c.args.self.now c.clear.new.self.items c.requires.fit
      (λ t told is. moved-stands g.D.Device.disk c.args.dev.now c.at_rest.new.dev c.args.self.now told c.at_rest.ensures.same is) c.at_rest.ensures.crash c.clear.ensures.items;
  standing = λ t. subst (λ d. Standing (g.D.Device.disk d) c.args.self.now.paged) (sym c.at_rest.ensures.same) (c.requires.standing t);
  touches = λ t. unmoved-touches g.D.Device.disk c.args.dev.now c.at_rest.new.dev c.args.self.now.paged c.at_rest.ensures.same;
  spare = record { bytes = refl; flushes = refl };
  cause = record { rose = λ none. absurd none; never_falls = omega (arith, ap g.D.Device.disk_faults c.at_rest.ensures.same); tell_faults = ap g.D.Device.tell_faults c.at_rest.ensures.same };
}

pub copy_page-requires-clause-fit : goal.copy_page-requires-clause-fit
copy_page-requires-clause-fit g c = c.pages.invariant.copying.fit

pub copy_page-requires-clause-there : goal.copy_page-requires-clause-there
copy_page-requires-clause-there g c =
    omega (arith, c.requires.there, ap (λ (f : Facts). pages_in f.files c.args.file) c.pages.invariant.copying.ends.3, c.pages-test.true, c.page_in.ensures)

pub returns-in_err-bytes-clause-crash : goal.returns-in_err-bytes-clause-crash
returns-in_err-bytes-clause-crash g c = copying-crash (g.D.Device.disk c.copy_page.new.dev) c.pages.invariant.copying c.copy_page.ensures.crash

pub returns-in_err-extend_from_slice-clause-crash : goal.returns-in_err-extend_from_slice-clause-crash
returns-in_err-extend_from_slice-clause-crash g c = copying-crash (g.D.Device.disk c.copy_page.new.dev) c.pages.invariant.copying c.copy_page.ensures.crash

pub pages-preserved : goal.pages-preserved
pages-preserved g c = record {
  within = omega (arith, c.pages-test.true);
  copying = copying-more (g.D.Device.disk c.copy_page.new.dev) c.copy_page.new.self c.in_ok-bytes.bytes c.extend_from_slice.new.self.items c.pages.invariant.copying
      c.in_ok-bytes.ensures.fit c.in_ok-bytes.ensures.same c.in_ok-bytes.ensures.ends c.in_ok-bytes.ensures.stands c.in_ok-bytes.ensures.later
      (λ t told is. subst (λ (n : ℕ). IsStored (map spelled told.records) (end_of (map spelled told.records)) (record { file = c.args.file; page = n }) c.in_ok-bytes.bytes) c.page_in.ensures (c.in_ok-bytes.ensures.page t told is))
      c.copy_page.ensures.crash c.in_ok-extend_from_slice.ensures.items;
  standing = c.in_ok-bytes.ensures.standing;
  touches = λ t.
      touches-then c.args.self.now.paged c.pages.self.paged c.pages.invariant.copying.ends.0 (ap (λ (f : Facts). f.files) c.pages.invariant.copying.ends.3) (c.pages.invariant.touches t) (c.copy_page.ensures.touches t);
  spare = record { bytes = c.in_ok-bytes.ensures.spare.bytes ∙ c.pages.invariant.spare.bytes; flushes = c.in_ok-bytes.ensures.spare.flushes ∙ c.pages.invariant.spare.flushes };
  cause = cause_then c.pages.invariant.cause c.in_ok-bytes.ensures.cause (λ none. absurd none);
}

pub returns-clause-fit : goal.returns-clause-fit
returns-clause-fit g c = c.pages.invariant.copying.fit

pub returns-clause-same : goal.returns-clause-same
returns-clause-same g c = c.pages.invariant.copying.same

pub returns-clause-ends : goal.returns-clause-ends
returns-clause-ends g c = c.pages.invariant.copying.ends

pub returns-clause-stands : goal.returns-clause-stands
returns-clause-stands g c = c.pages.invariant.copying.stands

pub returns-clause-later : goal.returns-clause-later
returns-clause-later g c = c.pages.invariant.copying.later

pub returns-clause-copied : goal.returns-clause-copied
returns-clause-copied g c = copying-ends c.pages.invariant.copying (omega (arith, c.pages-test.false, c.pages.invariant.within))

pub returns-clause-crash : goal.returns-clause-crash
returns-clause-crash g c = c.pages.invariant.copying.crash

pub returns-in_err-bytes-clause-touches : goal.returns-in_err-bytes-clause-touches
returns-in_err-bytes-clause-touches g c t =
    touches-then c.args.self.now.paged c.pages.self.paged c.pages.invariant.copying.ends.0 (ap (λ (f : Facts). f.files) c.pages.invariant.copying.ends.3) (c.pages.invariant.touches t) (c.copy_page.ensures.touches t)

pub returns-in_err-extend_from_slice-clause-touches : goal.returns-in_err-extend_from_slice-clause-touches
returns-in_err-extend_from_slice-clause-touches g c t =
    touches-then c.args.self.now.paged c.pages.self.paged c.pages.invariant.copying.ends.0 (ap (λ (f : Facts). f.files) c.pages.invariant.copying.ends.3) (c.pages.invariant.touches t) (c.copy_page.ensures.touches t)
