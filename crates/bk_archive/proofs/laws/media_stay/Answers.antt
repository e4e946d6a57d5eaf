use Rattle.bk_archive.specs.MediaLaws.{media-in, media-read, media-same, set-in}
use Rattle.bk_archive.specs.MediumLaws.{media-named, media-unnamed}
use Rattle.bk_archive.proofs.Happens.{no-media}
use Rattle.bk_archive.proofs.laws.media_stay.Goals as goal

pub returns : goal.returns
returns c = record { none = no-media; files = media-in; worlds = media-same; read = media-read; set = set-in; named = media-named; unnamed = media-unnamed }
