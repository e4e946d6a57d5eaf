-- Where a restore stops.
use Rattle.std.specs.Prelude.{ℕ, if◌then◌else◌, List, drop, codes, Option, Some, None, Ok}
use Rattle.bk_time.specs.Times.{time_of}
use Rattle.bk_token.specs.declared.token.Token.{Token}
use Rattle.bk_items.specs.declared.options.StopMark.{StopMark}
use Rattle.bk_items.specs.declared.options.Stopping.{Stopping}
use Rattle.bk_items.specs.declared.options.Stopping.TheVariants.{At, AtMark, BeforeMark}
use Rattle.bk_parse.specs.Parse.{Parsed, ◌>>=◌, stuck, next_is, sign, text, equal_text}
use Rattle.bk_media_forms.specs.Backup.{time}
use Rattle.bk_media_forms.specs.Pages.{lsn_of}

-- a text as a mark
abbrev pub mark_of : List ℕ → StopMark
mark_of t = record { text = t; lsn = lsn_of t }

-- AFTER a time, or nothing
unfoldable pub after_time : List ℕ → List Token → Parsed (Option ℕ × List Token)
after_time src ts =
    if next_is src ts (codes "AFTER") then (do
      t ← time src (drop 1 ts)
      Ok (Some t.0, t.1))
    else Ok (None, ts)

-- = a mark AFTER a time
unfoldable pub mark : List ℕ → List Token → Parsed ((StopMark × Option ℕ) × List Token)
mark src ts = do
  t ← equal_text src ts
  a ← after_time src t.1
  Ok ((mark_of t.0, a.0), a.1)

abbrev pub moment_by : List ℕ → Option ℕ → List Token → List Token → Parsed (Stopping × List Token)
moment_by t None ts rest = stuck ts
moment_by t (Some ms) ts rest = Ok (At t ms, rest)

-- = a time
unfoldable pub moment : List ℕ → List Token → Parsed (Stopping × List Token)
moment src ts = do
  equal ← sign 61 ts
  t ← text src equal
  moment_by t.0 (time_of t.0) equal t.1

-- at a mark
unfoldable pub at_mark : List ℕ → List Token → Parsed (Stopping × List Token)
at_mark src ts = do
  m ← mark src ts
  Ok (AtMark m.0.0 m.0.1, m.1)

-- before a mark
unfoldable pub before_mark : List ℕ → List Token → Parsed (Stopping × List Token)
before_mark src ts = do
  m ← mark src ts
  Ok (BeforeMark m.0.0 m.0.1, m.1)
