-- What is asked of databases that are hosted.
use Rattle.std.specs.Prelude.{◌≡◌, ℕ, Bool, false, List, length, Option, Some, None, slice_get}
use Rattle.bk_hosted.specs.Hosted.{Hosted}
use Rattle.bk_ids.specs.Name.{same_name}
use Rattle.bk_known.specs.declared.known.DatabaseSpec.{DatabaseSpec}
use Rattle.bk_known.specs.declared.known.Known.{Known}
use Rattle.bk_store.specs.Store.{Kept as KeptStore}
use Rattle.bk_hosting.specs.declared.hosting.State.{State}
use Rattle.bk_hosting.specs.Hosting.{Kept}

-- its description: its store's, or else of what is known of it
abbrev pub spec_by : Option KeptStore → Option Known → Option DatabaseSpec
spec_by (Some s) known = Some s.known.spec
spec_by None (Some known) = Some known.spec
spec_by None None = None

-- a description has this name
abbrev pub is_named : List ℕ → Option DatabaseSpec → Bool
is_named name None = false
is_named name (Some spec) = same_name spec.name name

-- What is kept describes these databases, as it does those that it hosts (`described` of AskLaws).
pub record AreDescribed (x : Kept) (hosted : List Hosted) : Type 0 where
  pub count : length x.states ≡ length hosted
  pub each : (i : ℕ) (h : Hosted) (slot : Option KeptStore) (st : State) → slice_get hosted i ≡ Some h → slice_get x.stores.slots i ≡ Some slot → slice_get x.states i ≡ Some st → spec_by slot st.known ≡ Some h.spec
