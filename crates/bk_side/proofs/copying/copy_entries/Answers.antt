use Rattle.std.proofs.Common.{rules, arith}
use Rattle.bk_side.proofs.Steps.{copying_read, copying_next, copying_failed, copying_ends, shows_effect}
use Rattle.bk_side.proofs.copying.copy_entries.Goals as goal

pub returns-in_err-read_entry-clause-crash : goal.returns-in_err-read_entry-clause-crash
returns-in_err-read_entry-clause-crash g c t = shows_effect (copying_read (c.entries.invariant.copied t) (c.read_entry.ensures.effect t)).effect

pub returns-in_err-copy_entry-clause-crash : goal.returns-in_err-copy_entry-clause-crash
returns-in_err-copy_entry-clause-crash g c t =
    copying_failed (g.D.Device.disk c.copy_entry.new.dev) c.read_entry.new.entry (c.requires.apart t) (g.met.D.Device.lawful t c.read_entry.new.dev) (c.entries.invariant.copied t) (c.read_entry.ensures.effect t) c.entries-test.true (c.requires.inside t) (c.requires.batch t)
    (c.in_ok-read_entry.ensures.entry t) (c.copy_entry.ensures.crash t)

pub entries-preserved : goal.entries-preserved
entries-preserved g c = record {
  copied = λ t.
      copying_next (g.D.Device.disk c.copy_entry.new.dev) c.read_entry.new.entry (c.requires.apart t) (g.met.D.Device.lawful t c.read_entry.new.dev) (c.entries.invariant.copied t) (c.read_entry.ensures.effect t) c.entries-test.true (c.requires.inside t)
      (c.requires.batch t) (c.in_ok-read_entry.ensures.entry t) (c.in_ok-copy_entry.ensures.done t);
  cause = search rules;
}

pub returns-clause-pages : goal.returns-clause-pages
returns-clause-pages g c t p = copying_ends (c.entries.invariant.copied t) (omega (arith, c.entries.auto.i-end, c.entries-test.false)) (c.requires.inside t) p
