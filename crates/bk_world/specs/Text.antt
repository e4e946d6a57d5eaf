-- The bytes of a refusal and of a reply.
use Rattle.std.specs.Prelude.{ℕ, List, [], ◌++◌, length, codes, flat_map}
use Rattle.std.specs.Fmt.{decimal}
use Rattle.bk_world.specs.declared.reply.Listing.{Listing}
use Rattle.bk_world.specs.declared.reply.Reply.{Reply}
use Rattle.bk_world.specs.declared.reply.Reply.TheVariants.{Done, Nothing, Counted, Selected, SetMade, JobStarted, Valid, Listed, Recovered, Refused}
use Rattle.bk_world.specs.declared.rule.Limit.{Limit}
use Rattle.bk_world.specs.declared.rule.Limit.TheVariants.{Databases, Files, Groups, Extents, Tables, Key, Writes, Sets, Lsn}
use Rattle.bk_world.specs.declared.rule.StatusWord.{StatusWord}
use Rattle.bk_world.specs.declared.rule.StatusWord.TheVariants.{Restoring, Standby, Interrupted}
use Rattle.bk_world.specs.declared.rule.Rule.{Rule}
use Rattle.bk_world.specs.declared.rule.Rule.TheVariants.{Syntax, TooLong, NoSuchDatabase, DatabaseExists, NotOnline, NoSuchTable, TableExists, NoSuchGroup, DuplicateKey, ValueTooLong, Locked, GroupFull, InTransaction, NoTransaction, JobRunning, NoJob, MediaMissing, NotMedia, NoSuchSet, SetDamaged, DatabaseInUse, OtherFamily, TailNotBackedUp, UnitNotInSet, PathFull, FileInUse, LimitReached, NotBuilt}
use Rattle.bk_ids.specs.Digest.{digest_text}
use Rattle.bk_ids.specs.Guid.{guid_text}

-- the word of a limit
abbrev pub limit_text : Limit → List ℕ
limit_text Databases = codes "DATABASES"
limit_text Files = codes "FILES"
limit_text Groups = codes "GROUPS"
limit_text Extents = codes "EXTENTS"
limit_text Tables = codes "TABLES"
limit_text Key = codes "KEY"
limit_text Writes = codes "WRITES"
limit_text Sets = codes "SETS"
limit_text Lsn = codes "LSN"

-- the word of a status that isn't online
abbrev pub status_text : StatusWord → List ℕ
status_text Restoring = codes "RESTORING"
status_text Standby = codes "STANDBY"
status_text Interrupted = codes "INTERRUPTED"

-- a rule: its number, its name and the values that were compared
abbrev pub rule_text : Rule → List ℕ
rule_text (Syntax line) = codes "1 Syntax " ++ decimal line
rule_text TooLong = codes "2 TooLong"
rule_text NoSuchDatabase = codes "3 NoSuchDatabase"
rule_text DatabaseExists = codes "4 DatabaseExists"
rule_text (NotOnline status) = codes "5 NotOnline " ++ status_text status
rule_text NoSuchTable = codes "7 NoSuchTable"
rule_text TableExists = codes "8 TableExists"
rule_text NoSuchGroup = codes "9 NoSuchGroup"
rule_text (DuplicateKey key) = codes "10 DuplicateKey " ++ decimal key
rule_text (ValueTooLong bytes) = codes "11 ValueTooLong " ++ decimal bytes
rule_text (Locked session) = codes "12 Locked " ++ decimal session
rule_text (GroupFull group) = codes "13 GroupFull " ++ group
rule_text InTransaction = codes "16 InTransaction"
rule_text NoTransaction = codes "17 NoTransaction"
rule_text JobRunning = codes "23 JobRunning"
rule_text NoJob = codes "24 NoJob"
rule_text MediaMissing = codes "30 MediaMissing"
rule_text NotMedia = codes "31 NotMedia"
rule_text (NoSuchSet position count) = codes "32 NoSuchSet " ++ (decimal position ++ (codes " " ++ decimal count))
rule_text (SetDamaged stored found) = codes "33 SetDamaged " ++ (digest_text stored ++ (codes " " ++ digest_text found))
rule_text (DatabaseInUse session) = codes "35 DatabaseInUse " ++ decimal session
rule_text (OtherFamily database set) = codes "36 OtherFamily " ++ (guid_text database ++ (codes " " ++ guid_text set))
rule_text (TailNotBackedUp archive end) = codes "37 TailNotBackedUp " ++ (decimal archive ++ (codes " " ++ decimal end))
rule_text (UnitNotInSet unit) = codes "48 UnitNotInSet " ++ unit
rule_text PathFull = codes "52 PathFull 64"
rule_text (FileInUse what) = codes "53 FileInUse " ++ what
rule_text (LimitReached which) = codes "54 LimitReached " ++ limit_text which
rule_text (NotBuilt line) = codes "99 NotBuilt " ++ decimal line

-- a count of rows
abbrev pub count_text : ℕ → List ℕ
count_text n = codes "(" ++ (decimal n ++ codes " rows)\n")

-- a row: its key, a tab and its value
abbrev pub row_text : ℕ × List ℕ → List ℕ
row_text row = decimal row.0 ++ (codes "\t" ++ (row.1 ++ codes "\n"))

-- a reply, each line ended by a line feed, where listings have these texts
abbrev pub reply_text : (Listing → List ℕ) → Reply → List ℕ
reply_text listing_text Done = codes "Done.\n"
reply_text listing_text Nothing = []
reply_text listing_text (Counted rows) = count_text rows
reply_text listing_text (Selected rows) = flat_map row_text rows ++ count_text (length rows)
reply_text listing_text (SetMade position first checkpoint last) =
    codes "Set " ++ (decimal position ++ (codes ": first " ++ (decimal first ++ (codes ", checkpoint " ++ (decimal checkpoint ++ (codes ", last " ++ (decimal last ++ codes ".\n")))))))
reply_text listing_text JobStarted = codes "Job started.\n"
reply_text listing_text (Valid position) = codes "Set " ++ (decimal position ++ codes " is valid.\n")
reply_text listing_text (Listed listing) = listing_text listing
reply_text listing_text (Recovered at) = codes "Recovered at " ++ (decimal at ++ codes ".\n")
reply_text listing_text (Refused rule) = codes "Refused " ++ (rule_text rule ++ codes "\n")

-- the replies to a script, one after the other
abbrev pub replies_text : (Listing → List ℕ) → List Reply → List ℕ
replies_text listing_text replies = flat_map (reply_text listing_text) replies
