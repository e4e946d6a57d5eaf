use Rattle.std.proofs.Common.{◌≡◌}
use Rattle.std.specs.List.{list_all}
use Rattle.bk_record.specs.Extents.{extents_shown}
use Rattle.bk_body.specs.Conditions.{has_extent}
use Rattle.bk_body.proofs.log.have_extents.Given as goal

abbrev pub invariant-loop-extent : goal.invariant-loop-extent
invariant-loop-extent l = record {
  can : (goal.iterator-loop-extent).can_next l.extent-iterator;
  finite : (goal.iterator-loop-extent).is_finite l.extent-iterator;
  same : list_all (λ e. has_extent l.files e.file e.extent) (extents_shown l.extent-iterator) ≡ list_all (λ e. has_extent l.files e.file e.extent) (extents_shown l.fn.extents);
}
