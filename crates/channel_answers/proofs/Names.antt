-- One name more, and the names of a net.
use Rattle.std.specs.Prelude.{◌≡◌, refl, Bool, true, false, ◌||◌, List, [], ◌∷◌, ◌++◌}
use Rattle.std.specs.List.{AllByRecursion, IsDistinct, list_any}
use Rattle.std.specs.Str.{bytes_eq}
use Rattle.std.proofs.Common.{arith}
use Rattle.wn_net.specs.declared.names.NetName.{NetName}
use Rattle.wn_net.specs.Net.{Netlist}
use Rattle.wn_net.specs.Names.{IsNameOf, AreNamesOf}
use Rattle.wn_net.specs.Changes.{AddsNodes}
use Rattle.wn_net.proofs.Laws.{names_on}
use Rattle.channel_answers.specs.Listed.{AreListed}

all_push : {X : Type 0} (P : X → Type 0) (xs : List X) (y : X) → AllByRecursion P xs → P y
    → AllByRecursion P (xs ++ y ∷ [])
all_push P [] y a h = (h, tt)
all_push P (x ∷ xs) y a h = (a.0, all_push P xs y a.1 h)

distinct_push : {X : Type 0} (e : X → X → Bool) (xs : List X) (y : X) → IsDistinct e xs
    → AllByRecursion (λ x. e x y ≡ false) xs → IsDistinct e (xs ++ y ∷ [])
unfolding IsDistinct
distinct_push e [] y d h = (tt, tt)
distinct_push e (x ∷ xs) y d h = (all_push (λ z. e x z ≡ false) xs y d.0 h.0, distinct_push e xs y d.1 h.1)

or_false : (a b : Bool) → (a || b) ≡ false → (a ≡ false) × (b ≡ false)
or_false false b h = (refl, h)
or_false true b h = cc

none_is : {X : Type 0} (p : X → Bool) (xs : List X) → list_any p xs ≡ false → AllByRecursion (λ x. p x ≡ false) xs
none_is p [] h = tt
none_is p (x ∷ xs) h = let both = or_false (p x) (list_any p xs) h in (both.0, none_is p xs both.1)

-- names that are listed are those of the net
pub listed_names : (net : Netlist) (list : List NetName) → AreListed net list
    → AreNamesOf net (record { list = list; inputs = []; regs = []; mems = [] })
listed_names net list own = record {
  placed = own.placed;
  differ = own.differ;
  inputs = tt;
  regs = tt;
  mems = tt;
  few_mems = omega arith;
}

-- where no name has its text, a node's name is listed behind the others
pub listed_push : (old new : Netlist) (list : List NetName) (n : NetName) → AddsNodes old new → AreListed old list
    → list_any (λ (m : NetName). bytes_eq m.text n.text) list ≡ false → IsNameOf new n
    → AreListed new (list ++ n ∷ [])
listed_push old new list n h own free here =
    let kept = names_on old new (record { list = list; inputs = []; regs = []; mems = [] }) h (listed_names old list own) in
    record {
      placed = all_push (IsNameOf new) list n kept.placed here;
      differ = distinct_push (λ (a b : NetName). bytes_eq a.text b.text) list n own.differ
          (none_is (λ (m : NetName). bytes_eq m.text n.text) list free);
    }

pub listed_none : (net : Netlist) → AreListed net []
unfolding IsDistinct
listed_none net = record { placed = tt; differ = tt }
