-- What the layers above may take of a side.
use Rattle.std.proofs.Common.{◌≡◌, ◌+◌, ℕ, List, [], ◌∷◌, length, Option, refl, inl, inr, sym, ap, subst, ◌∙◌}
use Rattle.std.specs.Prelude.{unwrap_or}
use Rattle.bk_device.specs.Calls.{contents, read_at}
use Rattle.bk_device.specs.Compose.{durable_kept}
use Rattle.bk_device.specs.Disk.{Files, Disk}
use Rattle.bk_device.specs.Effects.{IsName, KeepsFiles, MayLeaveOwn}
use Rattle.bk_gate.specs.Blobs.{IsGateFile, sealed}
use Rattle.bk_gate.specs.Gate.{begun_of, Kept as KeptGate}
use Rattle.bk_gate.specs.Laws.{gate_kept, gate_left}
use Rattle.bk_side.specs.Names.{IsData, IsOwn}
use Rattle.bk_side.specs.Pages.{Entry, page_in, page_of, entries_of, batched, first_batch, batch_of, shown, Shows}
use Rattle.bk_side.specs.Side.{Kept, HasNoBatch, IsSide, IsOwnOf, pages_of, ShowsPages, AreDurable, added_of}
use Rattle.bk_side.specs.BatchLaws.{content_same}

-- batches in files

pub batch_same : (f g : Option (List ℕ)) → sealed f ≡ sealed g → batch_of f ≡ batch_of g
unfolding batch_of
batch_same f g same = ap first_batch same

pub batch_none : (f : Option (List ℕ)) → sealed f ≡ [] → batch_of f ≡ []
unfolding batch_of
batch_none f none = ap first_batch none

pub batch_one : (f : Option (List ℕ)) (blob : List ℕ) → sealed f ≡ blob ∷ [] → batch_of f ≡ entries_of blob
unfolding batch_of
batch_one f blob one = ap first_batch one

pub page_same : (names : List (List ℕ)) (f g : Files) → ((name : List ℕ) → IsData names name → g name ≡ f name) → (p : ℕ × ℕ) → page_of names g p ≡ page_of names f p
page_same names f g datas p = ap (λ (c : List ℕ). page_in c p.1) (content_same names f g p.0 (λ name at. datas name (p.0, at)))

-- the same batch over the same data files shows the same
pub shown_same : (side : List ℕ) (names : List (List ℕ)) (f g : Files) → sealed (g side) ≡ sealed (f side) → ((name : List ℕ) → IsData names name → g name ≡ f name) → (p : ℕ × ℕ) → shown side names g p ≡ shown side names f p
shown_same side names f g batch datas p =
    ap (λ (es : List Entry). batched es p (page_of names g p)) (batch_same (g side) (f side) batch) ∙ ap (batched (batch_of (f side)) p) (page_same names f g datas p)

pub shows_same : (side : List ℕ) (names : List (List ℕ)) (f g : Files) → sealed (g side) ≡ sealed (f side) → ((name : List ℕ) → IsData names name → g name ≡ f name) → Shows side names (shown side names f) g
shows_same side names f g batch datas = record { pages = shown_same side names f g batch datas }

-- where no batch is sealed the data files count
pub plain : (side : List ℕ) (names : List (List ℕ)) (f : Files) → sealed (f side) ≡ [] → (p : ℕ × ℕ) → shown side names f p ≡ page_of names f p
plain side names f none p = ap (λ (es : List Entry). batched es p (page_of names f p)) (batch_none (f side) none)

pub shows_as : {side : List ℕ} {names : List (List ℕ)} {given : ℕ × ℕ → List ℕ} {files : Files} (other : ℕ × ℕ → List ℕ) → ((p : ℕ × ℕ) → given p ≡ other p) → Shows side names given files → Shows side names other files
shows_as other same is = record { pages = λ p. is.pages p ∙ same p }

-- what a side on a disk gives

-- the files show what they show
pub side_shows : {disk : Disk} {side : Kept} → IsSide disk side → ShowsPages side (pages_of side disk.files) disk.files
side_shows {disk = disk} {side = side} is = shows_same side.gate.name side.names disk.files disk.files refl (λ name _. refl)

-- each crash leaves the pages, also while pages are added
pub side_left : {disk : Disk} {side : Kept} (image : Files) → IsSide disk side → MayLeaveOwn (IsOwnOf side) disk image → ShowsPages side (pages_of side disk.files) image
side_left {disk = disk} {side = side} image is mine =
    shows_same side.gate.name side.names disk.files image (gate_left (image side.gate.name) is.gates (mine side.gate.name (inl refl))) (λ name data'. is.durable name data' (image name) (mine name (inr data')))

-- and where nothing is pending, as before a side is loaded
pub durable_left : (side : List ℕ) (names : List (List ℕ)) (disk : Disk) (image : Files) → AreDurable (IsOwn side names) disk → MayLeaveOwn (IsOwn side names) disk image → Shows side names (shown side names disk.files) image
durable_left side names disk image durable mine =
    shows_same side names disk.files image (ap sealed (durable side (inl refl) (image side) (mine side (inl refl)))) (λ name data'. durable name (inr data') (image name) (mine name (inr data')))

-- what is done under other names leaves the pages

pub shown_kept : (side : List ℕ) (names : List (List ℕ)) {a b : Disk} → KeepsFiles (IsOwn side names) a b → (p : ℕ × ℕ) → shown side names b.files p ≡ shown side names a.files p
shown_kept side names {a} {b} keeps p = shown_same side names a.files b.files (ap sealed (keeps.same side (inl refl))) (λ name data'. keeps.same name (inr data')) p

begun_kept : (a b : Disk) (gate : KeptGate) → b.files gate.name ≡ a.files gate.name → begun_of b gate ≡ begun_of a gate
begun_kept a b gate same = ap (λ (f : Option (List ℕ)). read_at (contents f) (gate.end + 9) (unwrap_or gate.begun 0)) same

-- the side
pub side_kept : {a b : Disk} {side : Kept} → KeepsFiles (IsOwnOf side) a b → IsSide a side → IsSide b side
side_kept {a = a} {b = b} {side = side} keeps is =
    let on_side : (name : List ℕ) → IsName side.gate.name name → IsOwnOf side name = λ name at. inl at in
    record {
      gates = gate_kept (record { same = λ name at. keeps.same name (on_side name at); nothing_more = λ name at. keeps.nothing_more name (on_side name at) }) is.gates;
      none = ap sealed (keeps.same side.gate.name (inl refl)) ∙ is.none;
      durable = λ name data'. durable_kept {names = IsOwnOf side} name (inr data') keeps (is.durable name data');
      apart = is.apart;
      whole = (is.whole.0, ap length (begun_kept a b side.gate (keeps.same side.gate.name (inl refl))) ∙ is.whole.1);
    }

-- and what was added
pub added_kept : {a b : Disk} (side : Kept) → KeepsFiles (IsOwnOf side) a b → added_of b side ≡ added_of a side
added_kept {a = a} {b = b} side keeps = ap entries_of (begun_kept a b side.gate (keeps.same side.gate.name (inl refl)))

-- files that read the same have no batch either
pub batch_read : (side : List ℕ) {f g : Files} → ((name : List ℕ) → g name ≡ f name) → HasNoBatch side f → HasNoBatch side g
batch_read side same is =
    let Gate : Option (List ℕ) → Type 0 = λ file. IsGateFile (contents file) in
    record { is_gate = subst Gate (sym (same side)) is.is_gate; none = ap sealed (same side) ∙ is.none }
