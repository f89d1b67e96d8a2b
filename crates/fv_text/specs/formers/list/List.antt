-- Between functions: That a type may lead back to itself through a `List`: the list of a shape is a shape, which holds
-- exactly the items of the list. The names that begin with `the_` are those that the checker looks for.
use mathlib.Core.Path.{◌≡◌, refl, sym}
use mathlib.Core.List.{List, []}
use mathlib.Core.Former.{Former, this, list, via, children}
use base.Stored.{code_map}
use denote.RattleType.{RattleType}
use denote.HoleLaws.{Alike}
use denote.HolePlaces.{Recodes, struct_places, laid}
use denote.Hole.Carrier.{listed, list-listed}
use denote.Hole.Fix.{over}
use denote.Param.Weighed.{Weighed, w_list}
use denote.Model.Placed.{view_places}
use Rattle.std.specs.formers.vec.Vec as vec
use Rattle.std.specs.declared.alloc.Global.{Global}
use Rattle.std.specs.contracts.alloc.Global as global
use Rattle.std.specs.contracts.impls.GlobalAllocator.TheImpl.{ghosts}
use Rattle.fv_text.specs.declared.list.List.TheInside.{Inside}
use Rattle.fv_text.specs.declared.list.List.TheView.{view, invariant}
use Rattle.fv_text.specs.contracts.list.List as whole
use Rattle.fv_text.specs.contracts.list.List.TheInside as inside

-- seen from outside, a `List` of a shape is a list of it
abbrev pub the_former : Former {0} → Former {0}
the_former shape = list shape

-- a list is heavier than each of its items
abbrev pub the_weighed : {shape : Former {0}} → Weighed shape → Weighed (the_former shape)
the_weighed weighed = w_list weighed

pub the_empty : List ⊥
the_empty = []

-- what a `List` holds are its items, in order
abbrev pub the_items : (Item : Type 0) → List Item → List Item
the_items Item items = items

pub the_items_listed : (Item : Type 0) (items : List Item)
    → listed _ (children (the_former this) Item items) ≡ the_items Item items
the_items_listed Item items = list-listed Item items

-- the fields: one vector of the items
abbrev vector : Former {0}
vector = via (vec.the_former this Global) Inside (λ Item fields. fields.items)
    (λ Item items. record { items = items }) (λ Item fields. refl) (λ Item items. refl)

-- two types whose values are laid out alike have lists that are laid out alike
module _ (From To : RattleType) (renamed : From.Denot → To.Denot) where
  pub the_places : Alike From To renamed → Alike (whole.the_row From) (whole.the_row To)
      ((the_former this).map From.Denot To.Denot renamed)
  the_places alike =
      view_places vector (list this) view (λ Item Other k fields. refl)
      (λ Item fields. refl) From.Denot To.Denot renamed
      (whole.the_row From).coded (whole.the_row To).coded (invariant From.Denot) (invariant To.Denot)
      (λ fields p q. refl) (λ fields p q. refl) (λ fields e. tt) (λ fields e. tt)
      (over (inside.the_row From)) (over (inside.the_row To))
      (struct_places (inside.the_type From) (inside.the_type To) (vec.mapped renamed, tt) _ (λ d. refl) refl
      (laid _ _ _ (vec.the_places global.the_row ghosts From To renamed alike), tt))

  pub the_codes_placed : Recodes From To renamed
      → Recodes (whole.the_row From) (whole.the_row To) ((the_former this).map From.Denot To.Denot renamed)
  the_codes_placed recodes items =
      sym (code_map From.coded.code To.coded.code renamed (λ item. sym (recodes item)) items)
