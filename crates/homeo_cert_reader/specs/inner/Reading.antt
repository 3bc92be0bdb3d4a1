-- Reading parts of a certificate from JSON values.
use Rattle.std.specs.Prelude.{◌≡◌, ◌≤◌, ◌<◌, ℕ, false, List, [], ◌∷◌, ◌++◌, map, length, slice_index_or, ℤ, pos, codes, Option, Some, None, MatchOption}
use Rattle.std.specs.List.{FoldsTo}
use Rattle.std.specs.Ordering.{int_eq}
use Rattle.serde_json.specs.Data.{Data, string, object, member, no_members}
use Rattle.homeo_plan.specs.Each.{Each}
use Rattle.homeo_plan.specs.declared.forms.Delta.{Delta}
use Rattle.homeo_certificate.specs.declared.nodes.Node.{Node}
use Rattle.homeo_certificate.specs.Certificate.{Call}
use Rattle.homeo_certificate.specs.Json.{list_data, node_data}
use Rattle.homeo_plan.specs.Linear.{AreInOrder}
use Rattle.homeo_certificate.specs.Shape.{IsWord, DeltaInShape, CallInShape}

-- a node without numbers has this name
abbrev pub IsBare : List ℕ → Option Node → Type 0
IsBare name r = MatchOption r ((m : Node) → node_data m ≡ list_data (string name ∷ []) → ⊥) (λ m. node_data m ≡ list_data (string name ∷ []))

-- a factor that isn't 0
pub record IsFactor (n : ℤ) : Type 0 where
  pub word : IsWord n
  pub counts : int_eq n (pos 0) ≡ false

-- from 1 to 16 sites
pub record IsSiteCount (n : ℕ) : Type 0 where
  pub some : 1 ≤ n
  pub few : n ≤ 16

-- the values of at most 1,024 objects
pub record IsBase (ns : List ℤ) : Type 0 where
  pub few : length ns ≤ 1024
  pub words : Each IsWord ns

-- deltas of n objects and k sites, in order
pub record AreFreezes (n k : ℕ) (ds : List Delta) : Type 0 where
  pub in_shape : Each (DeltaInShape n k) ds
  pub order : AreInOrder ds

-- at most 1,024 calls
pub record AreCalls (n k : ℕ) (gs : List Call) : Type 0 where
  pub few : length gs ≤ 1024
  pub in_shape : Each (CallInShape n k) gs

-- the object with these members
abbrev pub parts_data : (b s g c f k v : Data) → Data
parts_data b s g c f k v =
    object (member (codes "base") b (member (codes "bounds") s (member (codes "calls") g (member (codes "clauses") c
    (member (codes "freezes") f (member (codes "sites") k (member (codes "version") v no_members)))))))

-- this item was read from the value, and stands behind the others
pub record Pushed {V T : Type 0} (Gave : V → Option T → Type 0) (old : List T) (value : V) (new : List T) : Type 0 where
  pub item : T
  pub gave : Gave value (Some item)
  pub is : new ≡ old ++ item ∷ []

-- nothing was read from one of the values
pub record Unread {V T : Type 0} (Gave : V → Option T → Type 0) (values : List V) : Type 0 where
  pub place : ℕ
  pub within : place < length values
  pub value : V
  pub gave : Gave (slice_index_or values place value) None

-- the data is a list, and its values gave these items in order; or it is none, or nothing was read from one of its values
abbrev pub ListGave : {V T : Type 0} → (V → Data) → (V → Option T → Type 0) → Data → Option (List T) → Type 0
ListGave {V} see Gave d r =
    MatchOption r ((ds : List Data) → list_data ds ≡ d → (values : List V) × (map see values ≡ ds) × Unread Gave values)
    (λ items. (values : List V) × (list_data (map see values) ≡ d) × FoldsTo (Pushed Gave) [] values items)
