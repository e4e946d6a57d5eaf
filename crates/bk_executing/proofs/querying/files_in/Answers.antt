use Rattle.std.proofs.Common.{◌∙◌, ap, sym}
use Rattle.bk_hosted.specs.Hosted.{set_storage}
use Rattle.bk_world.specs.declared.database.Storage.{Storage}
use Rattle.bk_world.specs.declared.reply.Listing.TheVariants as listing
use Rattle.bk_world.specs.declared.reply.Reply.TheVariants as reply
use Rattle.bk_executing.proofs.Fits.{storage-same}
use Rattle.bk_executing.proofs.querying.files_in.Goals as goal

pub returns : goal.returns
returns c = ap (λ (s : Storage). reply.Listed (listing.Files s)) (c.in_ok-storage.ensures ∙ ap set_storage c.header.ensures ∙ sym (storage-same c.args.opened.now.set.header))
