-- What is read of each part of a header is spelled so, and what is spelled so is read.
use Rattle.std.proofs.Common.{◌≡◌, ℕ, zero, suc, ◌^◌, ◌<◌, Bool, true, false, cond, eqb, ltb, Some, None, refl, sym, ap, subst, arith, lit<}
use Rattle.std.proofs.lemmas.Bool.{lt-ltb, ltb-true, eqb-true}
use Rattle.std.proofs.lemmas.Option.{same_Some}
use Rattle.bk_ids.specs.declared.path.Branch.{Branch}
use Rattle.bk_world.specs.declared.database.Base.{Base}
use Rattle.bk_world.specs.declared.header.SetKind.{SetKind}
use Rattle.bk_world.specs.declared.header.SetKind.TheVariants.{Full, Log, File, Differential}
use Rattle.bk_world.specs.declared.header.HeaderFile.{HeaderFile}
use Rattle.bk_header.specs.declared.fixed.What.{What}
use Rattle.bk_header.specs.declared.fixed.Range.{Range}
use Rattle.bk_header.specs.declared.fixed.Times.{Times}
use Rattle.bk_header.specs.declared.fixed.Fixed.{Fixed}
use Rattle.bk_header.specs.declared.lists.Lists.{Lists}
use Rattle.bk_bytes.specs.Codec.{IsCodec}
use Rattle.bk_bytes.specs.CodecLaws.{number-IsCodec, string-IsCodec, followed-IsCodec, converted-IsCodec, counted-IsCodec, guard_true}
use Rattle.bk_fields.specs.Guids.{IsGuid, guid_form}
use Rattle.bk_fields.specs.Models.{model_form}
use Rattle.bk_fields.specs.Laws.{guid_form-IsCodec, model_form-IsCodec}
use Rattle.bk_header.specs.Spelling.{kind_number, in_set_number}
use Rattle.bk_header.specs.Reading.{version_form, kind_at, kind_form, what_form, IsInRange, range_form, base_form, AreTimes, times_form, IsFixed, fixed_form, IsBranch, branch_form, in_set_at, in_set_form, IsFile, file_form, AreLists, lists_form}

version_form-IsCodec : IsCodec (Unit {0}) version_form
unfolding version_form
version_form-IsCodec = converted-IsCodec _ (λ n. cond (eqb n 1) (Some tt) None) (λ _. 1) (λ _. Unit {0}) (number-IsCodec 2) (record {
  takes = λ n x fits e. let g = guard_true (eqb n 1) tt x e in (sym (eqb-true n 1 g.0), tt);
  gives = λ x h. (refl, lit< tt);
})

kind_form-IsCodec : IsCodec SetKind kind_form
unfolding kind_form
kind_form-IsCodec = converted-IsCodec _ kind_at kind_number (λ _. Unit {0}) (number-IsCodec 1) (record { takes = λ n kind fits e. (kind_takes n kind e, tt); gives = kind_gives })
  where
    kind_takes : (n : ℕ) (kind : SetKind) → kind_at n ≡ Some kind → kind_number kind ≡ n
    kind_takes zero kind e = absurd cc
    kind_takes (suc zero) kind e = ap kind_number (sym (same_Some Full kind e))
    kind_takes (suc (suc zero)) kind e = ap kind_number (sym (same_Some Log kind e))
    kind_takes (suc (suc (suc zero))) kind e = absurd cc
    kind_takes (suc (suc (suc (suc zero)))) kind e = ap kind_number (sym (same_Some File kind e))
    kind_takes (suc (suc (suc (suc (suc zero))))) kind e = ap kind_number (sym (same_Some Differential kind e))
    kind_takes (suc (suc (suc (suc (suc (suc n)))))) kind e = absurd cc

    kind_gives : (kind : SetKind) → Unit {0} → (kind_at (kind_number kind) ≡ Some kind) × (kind_number kind < 256 ^ 1)
    kind_gives Full h = (refl, lit< tt)
    kind_gives Log h = (refl, lit< tt)
    kind_gives File h = (refl, lit< tt)
    kind_gives Differential h = (refl, lit< tt)

what_form-IsCodec : IsCodec What what_form
unfolding what_form version_form kind_form model_form
what_form-IsCodec = converted-IsCodec _ _ _ _ (followed-IsCodec _ _ version_form-IsCodec (λ _. followed-IsCodec _ _ kind_form-IsCodec (λ _. followed-IsCodec _ _ model_form-IsCodec (λ _. number-IsCodec 1)))) (record {
  takes = λ x what fits e.
      let g = guard_true (ltb x.1.1.1 64) (record { kind = x.1.0; model = x.1.1.0; flags = x.1.1.1 }) what e in
      let small : x.1.1.1 < 64 = ltb-true _ _ g.0 in
      subst (λ (w : What). ((tt, (w.kind, (w.model, w.flags))) ≡ x) × (w.flags < 64)) g.1 (refl, small);
  gives = λ what small.
      let test : ltb what.flags 64 ≡ true = lt-ltb _ _ small in
      (rw test refl, (tt, (tt, (tt, omega arith))));
})

range_form-IsCodec : IsCodec Range range_form
unfolding range_form
range_form-IsCodec = converted-IsCodec _ _ _ IsInRange (followed-IsCodec _ _ (number-IsCodec 8) (λ _. followed-IsCodec _ _ (number-IsCodec 8) (λ _. followed-IsCodec _ _ (number-IsCodec 8) (λ _. number-IsCodec 8)))) (record {
  takes = λ x range fits e.
      subst (λ (r : Range). ((r.first, (r.checkpoint, (r.last, r.database_backup))) ≡ x) × IsInRange r)
      (same_Some (record { first = x.0; checkpoint = x.1.0; last = x.1.1.0; database_backup = x.1.1.1 }) range e)
      (refl, record { first = fits.0; checkpoint = fits.1.0; last = fits.1.1.0; database_backup = fits.1.1.1 });
  gives = λ range h. (refl, (h.first, (h.checkpoint, (h.last, h.database_backup))));
})

base_form-IsCodec : IsCodec Base base_form
unfolding base_form guid_form
base_form-IsCodec = converted-IsCodec _ _ _ (λ base. IsGuid base.set × (base.lsn < 2 ^ 64)) (followed-IsCodec _ _ guid_form-IsCodec (λ _. number-IsCodec 8)) (record {
  takes = λ x base fits e.
      subst (λ (b : Base). ((b.set, b.lsn) ≡ x) × (IsGuid b.set × (b.lsn < 2 ^ 64))) (same_Some (record { set = x.0; lsn = x.1 }) base e) (refl, (fits.0, fits.1));
  gives = λ base h. (refl, (h.0, h.1));
})

times_form-IsCodec : IsCodec Times times_form
unfolding times_form
times_form-IsCodec = converted-IsCodec _ _ _ AreTimes (followed-IsCodec _ _ (number-IsCodec 8) (λ _. followed-IsCodec _ _ (number-IsCodec 8) (λ _. number-IsCodec 8))) (record {
  takes = λ x times fits e.
      subst (λ (t : Times). ((t.start, (t.finish, t.expiry)) ≡ x) × AreTimes t) (same_Some (record { start = x.0; finish = x.1.0; expiry = x.1.1 }) times e)
      (refl, record { start = fits.0; finish = fits.1.0; expiry = fits.1.1 });
  gives = λ times h. (refl, (h.start, (h.finish, h.expiry)));
})

pub fixed_form-IsCodec : IsCodec Fixed fixed_form
unfolding fixed_form guid_form what_form range_form base_form times_form
fixed_form-IsCodec = converted-IsCodec _ _ _ IsFixed (followed-IsCodec _ _ what_form-IsCodec (λ _. followed-IsCodec _ _ (followed-IsCodec _ _ guid_form-IsCodec (λ _. guid_form-IsCodec)) (λ _. followed-IsCodec _ _ range_form-IsCodec (λ _. followed-IsCodec _ _ base_form-IsCodec (λ _. times_form-IsCodec))))) (record {
  takes = λ x fixed fits e.
      subst (λ (f : Fixed). ((f.what, ((f.set, f.family), (f.range, (f.base, f.times)))) ≡ x) × IsFixed f)
      (same_Some (record { what = x.0; set = x.1.0.0; family = x.1.0.1; range = x.1.1.0; base = x.1.1.1.0; times = x.1.1.1.1 }) fixed e)
      (refl, record { what = fits.0; set = fits.1.0.0; family = fits.1.0.1; range = fits.1.1.0; base = fits.1.1.1.0; times = fits.1.1.1.1 });
  gives = λ fixed h. (refl, (h.what, ((h.set, h.family), (h.range, (h.base, h.times)))));
})

pub branch_form-IsCodec : IsCodec Branch branch_form
unfolding branch_form guid_form
branch_form-IsCodec = converted-IsCodec _ _ _ IsBranch (followed-IsCodec _ _ guid_form-IsCodec (λ _. number-IsCodec 8)) (record {
  takes = λ x branch fits e.
      subst (λ (b : Branch). ((b.guid, b.start) ≡ x) × IsBranch b) (same_Some (record { guid = x.0; start = x.1 }) branch e) (refl, record { guid = fits.0; start = fits.1 });
  gives = λ branch h. (refl, (h.guid, h.start));
})

in_set_form-IsCodec : IsCodec Bool in_set_form
unfolding in_set_form
in_set_form-IsCodec = converted-IsCodec _ in_set_at in_set_number (λ _. Unit {0}) (number-IsCodec 1) (record { takes = λ n b fits e. (in_set_takes n b e, tt); gives = in_set_gives })
  where
    in_set_takes : (n : ℕ) (b : Bool) → in_set_at n ≡ Some b → in_set_number b ≡ n
    in_set_takes zero b e = ap in_set_number (sym (same_Some false b e))
    in_set_takes (suc zero) b e = ap in_set_number (sym (same_Some true b e))
    in_set_takes (suc (suc n)) b e = absurd cc

    in_set_gives : (b : Bool) → Unit {0} → (in_set_at (in_set_number b) ≡ Some b) × (in_set_number b < 256 ^ 1)
    in_set_gives true h = (refl, lit< tt)
    in_set_gives false h = (refl, lit< tt)

pub file_form-IsCodec : IsCodec HeaderFile file_form
unfolding file_form in_set_form
file_form-IsCodec = converted-IsCodec _ _ _ IsFile (followed-IsCodec _ _ (number-IsCodec 2) (λ _. followed-IsCodec _ _ (number-IsCodec 1) (λ _. followed-IsCodec _ _ (number-IsCodec 4) (λ _. followed-IsCodec _ _ in_set_form-IsCodec (λ _. followed-IsCodec _ _ (string-IsCodec 1 64 (lit< tt)) (λ _. string-IsCodec 1 100 (lit< tt))))))) (record {
  takes = λ x file fits e.
      subst (λ (f : HeaderFile). ((f.spec.number, (f.spec.group, (f.spec.extents, (f.in_set, (f.spec.name, f.spec.path))))) ≡ x) × IsFile f)
      (same_Some (record { spec = record { number = x.0; group = x.1.0; extents = x.1.1.0; name = x.1.1.1.1.0; path = x.1.1.1.1.1 }; in_set = x.1.1.1.0 }) file e)
      (refl, record { number = fits.0; group = fits.1.0; extents = fits.1.1.0; name = fits.1.1.1.1.0; path = fits.1.1.1.1.1 });
  gives = λ file h. (refl, (h.number, (h.group, (h.extents, (tt, (h.name, h.path))))));
})

pub lists_form-IsCodec : IsCodec Lists lists_form
unfolding lists_form branch_form file_form
lists_form-IsCodec = converted-IsCodec _ _ _ AreLists (followed-IsCodec _ _ (string-IsCodec 1 64 (lit< tt)) (λ _. followed-IsCodec _ _ (string-IsCodec 0 65535 (lit< tt)) (λ _. followed-IsCodec _ _ (counted-IsCodec 2 _ branch_form-IsCodec) (λ _. followed-IsCodec _ _ (counted-IsCodec 1 _ (string-IsCodec 1 64 (lit< tt))) (λ _. followed-IsCodec _ _ (counted-IsCodec 2 _ file_form-IsCodec) (λ _. followed-IsCodec _ _ (string-IsCodec 1 64 (lit< tt)) (λ _. string-IsCodec 1 100 (lit< tt)))))))) (record {
  takes = λ x lists fits e.
      subst (λ (l : Lists). ((l.database, (l.name, (l.path, (l.groups, (l.files, (l.log_name, l.log_path)))))) ≡ x) × AreLists l)
      (same_Some (record { database = x.0; name = x.1.0; path = x.1.1.0; groups = x.1.1.1.0; files = x.1.1.1.1.0; log_name = x.1.1.1.1.1.0; log_path = x.1.1.1.1.1.1 }) lists e)
      (refl, record { database = fits.0; name = fits.1.0; path = fits.1.1.0; groups = fits.1.1.1.0; files = fits.1.1.1.1.0; log_name = fits.1.1.1.1.1.0; log_path = fits.1.1.1.1.1.1 });
  gives = λ lists h. (refl, (h.database, (h.name, (h.path, (h.groups, (h.files, (h.log_name, h.log_path)))))));
})
