use Rattle.std.proofs.Common.{rules, ◌≡◌, ◌∙◌, sym, ap, arith, refl, Some, List, ℕ, length, slice_get}
use Rattle.std.proofs.lemmas.Option.{slice_get_read}
use Rattle.bk_device.specs.Laws.{nothing_by_sync, nothing_then}
use Rattle.bk_side.proofs.Files.{syncing_effect, syncing_more, syncing_ends}
use Rattle.bk_side.proofs.copying.sync_files.Goals as goal

pub returns-in_err-sync-clause-crash : goal.returns-in_err-sync-clause-crash
returns-in_err-sync-clause-crash g c t =
    let there : slice_get c.args.names.now c.files.name-index ≡ Some c.as_str.result.now =
    slice_get_read c.args.names.now (length c.args.names.now) c.files.name-index c.name-item.result refl c.files-test.true c.name-item.is ∙ ap (λ (n : List ℕ). Some n) (sym c.as_str.ensures) in
    syncing_effect c.as_str.result.now (c.files.invariant.synced t) there (c.sync.ensures.effect t)

pub files-preserved : goal.files-preserved
files-preserved g c =
    let there : slice_get c.args.names.now c.files.name-index ≡ Some c.as_str.result.now =
    slice_get_read c.args.names.now (length c.args.names.now) c.files.name-index c.name-item.result refl c.files-test.true c.name-item.is ∙ ap (λ (n : List ℕ). Some n) (sym c.as_str.ensures) in
    record {
      synced = λ t. syncing_more c.as_str.result.now (c.files.invariant.synced t) there (c.sync.ensures.effect t) (c.in_ok-sync.ensures.same t) (c.in_ok-sync.ensures.durable t);
      still = λ t. nothing_then (g.met.D.Device.lawful t c.args.dev.now) (c.files.invariant.still t) (nothing_by_sync (c.sync.ensures.effect t) (c.in_ok-sync.ensures.same t));
      cause = search rules;
    }

pub returns-clause-durable : goal.returns-clause-durable
returns-clause-durable g c t name data' = syncing_ends (c.files.invariant.synced t) (omega (arith, c.files-test.false)) name data'
