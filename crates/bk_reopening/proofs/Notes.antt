-- What is read of a note.
use Rattle.std.proofs.Common.{◌≡◌, ◌≤◌, ℕ, List, ◌++◌, length, Option, Some, None, sym, ◌∙◌, ap, subst}
use Rattle.std.proofs.lemmas.Option.{same_Some}
use Rattle.bk_groups.specs.Groups.{AreFiles}
use Rattle.bk_known.specs.declared.known.Known.{Known}
use Rattle.bk_known.specs.Known.{IsKnown, KeepsKnown, Tells as Reads, known_bytes, known_form}
use Rattle.bk_known.specs.KnownLaws.{known_read}
use Rattle.bk_reading.specs.Reading.{Refuses}
use Rattle.bk_reading.specs.declared.unread.Unread.{Unread}
use Rattle.bk_reading.specs.declared.unread.Unread.TheVariants.{Unspelled, NoMemory}
use Rattle.bk_reopening.specs.Reopening.{IsNoteOf, Tells}
use Rattle.bk_reopening.specs.declared.noting.Noted.{Noted}

-- what is spelled is read
note-read : (bytes : List ℕ) (known : Known) (note : List ℕ) → IsKnown known → bytes ≡ known_bytes known ++ note → Reads bytes known note
note-read bytes known note is are = subst (λ (bs : List ℕ). Reads bs known note) (sym are) (known_read known note is)

-- two readings of one note are one
read-same : (bytes : List ℕ) (known read : Known) (note rest : List ℕ) → IsKnown known → bytes ≡ known_bytes known ++ note → Reads bytes read rest → (read ≡ known) × (rest ≡ note)
read-same bytes known read note rest is are tells =
    let same : ◌≡◌ {A = Known × List ℕ} (read, rest) (known, note) = same_Some (read, rest) (known, note) (sym tells ∙ note-read bytes known note is are) in
    (ap (λ (p : Known × List ℕ). p.0) same, ap (λ (p : Known × List ℕ). p.1) same)

-- what is spelled isn't refused
pub note-refused : (bytes : List ℕ) (e : Unread) (known : Known) (note : List ℕ) → Refuses e (known_form.reading bytes) → e ≡ Unspelled → IsNoteOf bytes known note → ⊥
note-refused bytes Unspelled known note refused same is = let both : ◌≡◌ {A = Option (Known × List ℕ)} None (Some (known, note)) = sym refused ∙ note-read bytes known note is.spelled is.is in absurd (cc)
note-refused bytes NoMemory known note refused same is = absurd (cc)

-- what is read of a database's note may be kept
pub note-kept : (bytes : List ℕ) (read : Known) (rest : List ℕ) (known : Known) (note : List ℕ) → Reads bytes read rest → IsNoteOf bytes known note → KeepsKnown read × (AreFiles read.spec.storage.files × (length rest ≤ 12288))
note-kept bytes read rest known note tells is =
    let same = read-same bytes known read note rest is.spelled is.is tells in (
      subst KeepsKnown (sym same.0) is.keeps,
      (subst (λ (k : Known). AreFiles k.spec.storage.files) (sym same.0) is.files, subst (λ (bs : List ℕ). length bs ≤ 12288) (sym same.1) is.short),
    )

pub tells-is : (bytes : List ℕ) (noted : Noted) (rest : List ℕ) → noted.note.items ≡ rest → Reads bytes noted.known rest → KeepsKnown noted.known → AreFiles noted.known.spec.storage.files → length rest ≤ 12288 → Tells bytes noted
tells-is bytes noted rest copied tells keeps files short = record {
  same = λ known note is are. let same = read-same bytes known noted.known note rest is are tells in (same.0, copied ∙ same.1);
  keeps = keeps;
  files = files;
  short = subst (λ (bs : List ℕ). length bs ≤ 12288) (sym copied) short;
}
