use Rattle.std.proofs.Common.{rules, ◌≡◌, ◌<◌, ◌^◌, ◌∙◌, ap}
use Rattle.bk_paged.specs.Names.{paths_of}
use Rattle.bk_stores.specs.Records.{begun}
use Rattle.bk_stores.specs.StandLaws.{rest-crash}
use Rattle.bk_stores.specs.Stores.{Kept}
use Rattle.bk_stores.specs.TouchLaws.{none-touched}
use Rattle.bk_stores.proofs.Brought.{paths-shared, paths-small}
use Rattle.bk_stores.proofs.stores.Stores.begin_with.Goals as goal

pub returns-in_err-paths-clause-crash : goal.returns-in_err-paths-clause-crash
returns-in_err-paths-clause-crash g c t tolds is shares = rest-crash (g.D.Device.disk c.args.dev.now) c.args.self.now tolds is

pub begin_store-requires-clause-small : goal.begin_store-requires-clause-small
begin_store-requires-clause-small g c =
    let paths_are : c.deref.result.now ≡ paths_of c.args.files.now = search rules in
    paths-small c.args.files.now c.deref.result.now c.requires.may paths_are

pub returns-in_err-begin_store-clause-crash : goal.returns-in_err-begin_store-clause-crash
returns-in_err-begin_store-clause-crash g c t tolds is shares =
    let paths_are : c.deref.result.now ≡ paths_of c.args.files.now = search rules in
    c.begin_store.ensures.crash t tolds is (paths-shared c.args.self.now.master.record.databases tolds c.args.files.now c.deref.result.now paths_are shares)

pub returns-clause-named : goal.returns-clause-named
returns-clause-named g c =
    let s : Kept = c.args.self.now in
    let then : Kept = c.begin_store.new.self in
    let paths_are : c.deref.result.now ≡ paths_of c.args.files.now = search rules in
    let put : then.master.record ≡ begun s.master.record c.deref.result.now = search rules in
    let small : s.master.record.next < 2 ^ 32 = search rules in
    let slots : then.slots ≡ s.slots = search rules in
    record { small = small; put = put ∙ ap (begun s.master.record) paths_are; slots = slots }

pub returns-clause-stands : goal.returns-clause-stands
returns-clause-stands g c t tolds is shares =
    let paths_are : c.deref.result.now ≡ paths_of c.args.files.now = search rules in
    c.in_ok-begin_store.ensures.stands t tolds is (paths-shared c.args.self.now.master.record.databases tolds c.args.files.now c.deref.result.now paths_are shares)

pub returns-clause-crash : goal.returns-clause-crash
returns-clause-crash g c t tolds is shares =
    let paths_are : c.deref.result.now ≡ paths_of c.args.files.now = search rules in
    c.begin_store.ensures.crash t tolds is (paths-shared c.args.self.now.master.record.databases tolds c.args.files.now c.deref.result.now paths_are shares)

pub returns-in_err-paths-clause-touches : goal.returns-in_err-paths-clause-touches
returns-in_err-paths-clause-touches g c t = none-touched (g.D.Device.disk c.args.dev.now)
