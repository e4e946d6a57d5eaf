-- Data files of a new database before they are counted: a size that no database has is taken for the first one above.
use Rattle.std.specs.Prelude.{min}
use Rattle.bk_world.specs.declared.database.FileSpec.{FileSpec}

-- a file with at most 4,097 extents
abbrev pub capped : FileSpec → FileSpec
capped f = record f { extents = min f.extents 4097 }
