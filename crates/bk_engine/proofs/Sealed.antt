-- A medium is made, or a set is sealed, and the world is the one behind that.
use Rattle.std.proofs.Common.{◌≡◌, ◌≤◌, ◌⊎◌, ℕ, ◌+◌, List, Some, None, refl, sym, subst, arith}
use Rattle.bk_archive.specs.Calls.{HasMade, HasSealed, LeavesMaking, LeavesSealing}
use Rattle.bk_archive.specs.Media.{IfDurable, IsMediumFile, KeepsMedia, MediaAreDurable}
use Rattle.bk_body.specs.Body.{Body}
use Rattle.bk_carried.specs.Carried.{Carries}
use Rattle.bk_device.specs.Disk.{Disk, Files}
use Rattle.bk_device.specs.Effects.{Effect, MayLeaveOwn}
use Rattle.bk_hosted.specs.Hosted.{Hosts}
use Rattle.bk_hosting.specs.Hosting.{Kept, LeavesHosted, own_of}
use Rattle.bk_machine.specs.Acts.{done, medium_made, set_sealed}
use Rattle.bk_machine.specs.World.{World}
use Rattle.bk_stores.specs.Stores.{IsOurs as IsOfStores}
use Rattle.bk_world.specs.declared.header.Header.{Header}
use Rattle.bk_world.specs.Medium.{medium_at}
use Rattle.bk_engine.specs.Acts.{CutsAct}
use Rattle.bk_engine.specs.Amid.{Amid}
use Rattle.bk_engine.specs.AmidLaws.{MayCome, media-amid, media-crash}
use Rattle.bk_engine.specs.Rows.{rows_in}
use Rattle.bk_engine.specs.Stands.{IsOurs}

-- ---- a medium

made-comes : (a : Disk) (x : Kept) (w : World) (path : List ℕ) → (is : Amid a x w) → w.counter + 1 ≤ (own_of x).counter → Hosts (done w (medium_made path)) is.hosted → MayCome a x w (done w (medium_made path)) is
unfolding done rows_in
made-comes a x w path is reserved hosts = record { instance = refl; no_less = reserved; no_more = omega arith; hosts = hosts; rows = refl }

pub made-crash : (a b : Disk) (x : Kept) (w : World) (path : List ℕ) → (is : Amid a x w) → (own_of x).making ≡ Some path → w.counter + 1 ≤ (own_of x).counter → medium_at w.media path ≡ None → Hosts (done w (medium_made path)) is.hosted
    → ((image : Files) → MayLeaveOwn IsOfStores a image → LeavesHosted (own_of x) is.hosted image) → Effect IsMediumFile (IfDurable a (LeavesMaking path a.files)) a b → Effect IsOurs (CutsAct w (medium_made path)) a b
made-crash a b x w path is named reserved absent hosts left effect =
    media-crash a b x w (medium_made path) is (made-comes a x w path is reserved hosts) left
    (λ image its. subst (λ making. KeepsMedia w making image ⊎ KeepsMedia (done w (medium_made path)) making image) (sym named) (its is.calm.media w (subst (λ making. KeepsMedia w making a.files) named is.media) absent)) effect

pub made-amid : {P : Files → Type 0} (a b : Disk) (x : Kept) (w : World) (path : List ℕ) → (is : Amid a x w) → (own_of x).making ≡ Some path → w.counter + 1 ≤ (own_of x).counter → medium_at w.media path ≡ None → Hosts (done w (medium_made path)) is.hosted
    → HasMade path a.files b.files → MediaAreDurable b → Effect IsMediumFile P a b → Amid b x (done w (medium_made path)) × KeepsMedia (done w (medium_made path)) None b.files
made-amid a b x w path is named reserved absent hosts made calm effect =
    let both = made w (subst (λ making. KeepsMedia w making a.files) named is.media) absent in
    (media-amid a b x w (done w (medium_made path)) is (made-comes a x w path is reserved hosts) (subst (λ making. KeepsMedia (done w (medium_made path)) making b.files) (sym named) both.0) calm effect, both.1)

-- ---- a set

sealed-comes : (a : Disk) (x : Kept) (w : World) (path : List ℕ) (header : Header) → (is : Amid a x w) → Hosts (done w (set_sealed path header)) is.hosted → MayCome a x w (done w (set_sealed path header)) is
unfolding done rows_in
sealed-comes a x w path header is hosts = record { instance = refl; no_less = is.no_less; no_more = omega arith; hosts = hosts; rows = refl }

pub sealed-crash : (a b : Disk) (x : Kept) (w : World) (path : List ℕ) (body : Body) → (is : Amid a x w) → (own_of x).making ≡ None → Carries w.history body → Hosts (done w (set_sealed path body.header)) is.hosted
    → ((image : Files) → MayLeaveOwn IsOfStores a image → LeavesHosted (own_of x) is.hosted image) → Effect IsMediumFile (IfDurable a (LeavesSealing path body a.files)) a b → Effect IsOurs (CutsAct w (set_sealed path body.header)) a b
sealed-crash a b x w path body is none carries hosts left effect =
    media-crash a b x w (set_sealed path body.header) is (sealed-comes a x w path body.header is hosts) left
    (λ image its. subst (λ making. KeepsMedia w making image ⊎ KeepsMedia (done w (set_sealed path body.header)) making image) (sym none) (its is.calm.media w (subst (λ making. KeepsMedia w making a.files) none is.media) carries)) effect

pub sealed-amid : {P : Files → Type 0} (a b : Disk) (x : Kept) (w : World) (path : List ℕ) (body : Body) → (is : Amid a x w) → (own_of x).making ≡ None → Carries w.history body → Hosts (done w (set_sealed path body.header)) is.hosted
    → HasSealed path body a.files b.files → MediaAreDurable b → Effect IsMediumFile P a b → Amid b x (done w (set_sealed path body.header))
sealed-amid a b x w path body is none carries hosts sealed calm effect =
    media-amid a b x w (done w (set_sealed path body.header)) is (sealed-comes a x w path body.header is hosts)
    (subst (λ making. KeepsMedia (done w (set_sealed path body.header)) making b.files) (sym none) (sealed w (subst (λ making. KeepsMedia w making a.files) none is.media) carries)) calm effect
