-- What the names of a source body give, for what holds everywhere in its form.
use Rattle.std.proofs.Common.{ℕ, List, map}
use Rattle.homeo_syntax.specs.declared.low.Temp.{Temp}
use Rattle.homeo_syntax.specs.declared.low.Temp.TheVariants as temp
use Rattle.homeo_syntax.specs.declared.low.SplitName.{SplitName}
use Rattle.homeo_syntax.specs.declared.low.SplitName.TheVariants as split
use Rattle.homeo_syntax.specs.declared.phrase.Ident.{Ident}
use Rattle.homeo_syntax.specs.Source as s
use Rattle.homeo_meaning.specs.Context.{Slot, Context, spot, cell, field_cell, object, slots, fields, bind}
use Rattle.homeo_meaning.specs.Bindings.{Row}
use Rattle.homeo_meaning.specs.Occurrences.{Occurrence, at, within, TakesObject, TakesRelation, TakesField, NamesField, FillsFields}
use Rattle.homeo_lform.proofs.ObjectBounds.{Each}

-- Where K is known of the row variables and the context, C of each occurrence of a name, N of each identifier, and R of each slot of
-- a relation: P holds of each whole object that the source names there, and Q of each name of a temporary.
pub record Gives (P : SplitName → Type 0) (Q : Temp → Type 0) (K : List Row → Context → Type 0) (C : Occurrence → Type 0) (N : Ident → Type 0) (R : Context → ℕ → Slot → Type 0) : Type 0 where
  pub named : (t : Ident) → N t → Q (temp.Named t.name)
  pub one_object : (rows : List Row) (x : Context) (o : Ident) → K rows x → C (at rows (TakesObject o)) → P (split.Whole (object x o.name).place)
  pub row_field : (rows : List Row) (x : Context) (r f : Ident) → K rows x → C (at rows (TakesField r f)) → P (split.Whole (field_cell (x.rows r.name) f.name))
  pub all_slots : (rows : List Row) (x : Context) (q : ℕ) → K rows x → Each (R x q) (slots x q)
  pub used : (x : Context) (q : ℕ) (slot : Slot) → R x q slot → P (split.Whole slot.used)
  pub field :
      (rows inner : List Row) (x : Context) (q f : Ident) → K rows x → C (at inner (TakesRelation q)) → C (at inner (NamesField q f)) →
      (slot : Slot) → R x q.name slot → P (split.Whole (cell slot (spot (fields x q.name) f.name))) × P (split.Whole (field_cell slot f.name))
  pub filled :
      (rows : List Row) (x : Context) (q : Ident) (fs : List s.FieldValue) → K rows x → C (at rows (TakesRelation q)) → C (at rows (FillsFields q (map (λ f. f.field) fs))) →
      Each (λ (f : s.FieldValue). (slot : Slot) → R x q.name slot → P (split.Whole (cell slot (spot (fields x q.name) f.field.name)))) fs
  pub bound :
      (rows inner : List Row) (x : Context) (r q : Ident) (slot : Slot) → K rows x → C (at inner (TakesRelation q)) → R x q.name slot →
      K (within r q rows) (bind x r.name slot)
