-- The measures of commands on so many sites, and the store after them.
use Rattle.std.specs.Prelude.{ℕ, length}
use Rattle.homeo_syntax.specs.Low.{Command, Commands, Skip, Assign, Write, Print, Seq, If, NoCommand, MoreCommand}
use Rattle.homeo_size.specs.inner.Key.{definitions}
use Rattle.homeo_size.specs.inner.Parts.{written, empty, valued, writing, chosen, followed}
use Rattle.homeo_size.specs.inner.Sizing.{sized, cond_sized}
use Rattle.homeo_size.specs.inner.Store.{Store, set_entry, back_to, raised, left_by}
use Rattle.homeo_size.specs.declared.extents.Entry.{Entry}
use Rattle.homeo_size.specs.declared.measures.Measure.{Measure}

abbrev mutual
  unfolding definitions

  pub after : ℕ → Command → Store → Store
  after sites Skip z = z
  after sites (Assign t e) z = set_entry z (Entry.Temp t) (sized e z.sizes)
  after sites (Write x e) z = set_entry z (Entry.Name x) (written sites (sized e z.sizes))
  after sites (Print e) z = z
  after sites (Seq cs) z = after_all sites cs z
  after sites (If b c d) z =
      let y : Store = after sites c z in
      raised (left_by (length z.log) y d) (after sites d (back_to (length z.log) y))

  pub after_all : ℕ → Commands → Store → Store
  after_all sites NoCommand z = z
  after_all sites (MoreCommand c cs) z = after_all sites cs (after sites c z)

abbrev mutual
  unfolding definitions

  pub measured : ℕ → Command → Store → Measure
  measured sites Skip z = empty
  measured sites (Assign t e) z = valued (sized e z.sizes)
  measured sites (Write x e) z = writing sites (sized e z.sizes)
  measured sites (Print e) z = valued (sized e z.sizes)
  measured sites (Seq cs) z = all_measured sites cs z empty
  measured sites (If b c d) z =
      chosen (cond_sized b z.sizes) (measured sites c z) (measured sites d (back_to (length z.log) (after sites c z)))

  -- after the commands before them
  pub all_measured : ℕ → Commands → Store → Measure → Measure
  all_measured sites NoCommand z m = m
  all_measured sites (MoreCommand c cs) z m = all_measured sites cs (after sites c z) (followed m (measured sites c z))
