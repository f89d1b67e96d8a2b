-- Places that are seen alike, and where the walk stands once more.
use Rattle.std.specs.Prelude.{◌≡◌, refl, ℕ, List, [], ◌∷◌, ◌++◌, drop}
use Rattle.std.proofs.Common.{ap, sym, ◌∙◌}
use Rattle.vl_tree.specs.declared.source.Module.{Module}
use Rattle.vl_tree.specs.Item.{Items}
use Rattle.vl_mean.specs.declared.const_number.Const.{Const}
use Rattle.vl_mean.specs.Declarations.{all_names}
use Rattle.vl_mean.specs.Scopes.{Scope}
use Rattle.vl_mean.specs.Walk.{Place, block_place, turn_place, with_earlier, with_genvar}
use Rattle.vl_elab_spec.specs.Meanings.{Names}
use Rattle.vl_mean_flat.specs.Seen.{Seen}
use Rattle.vl_mean_flat.proofs.Places as placed
use Rattle.vl_elab_flatten.specs.declared.here.Here.{Here}
use Rattle.vl_elab_flatten.specs.Here.{block_scope, place_in}
use Rattle.vl_elab_flatten.specs.Ready.{items_seen, place_of, scope_seen}

pub same_here : (h k : Here) → h.scopes ≡ k.scopes → h.numbers ≡ k.numbers → h.path ≡ k.path → h.names ≡ k.names
    → h ≡ k
same_here h k a b c d = λ i. record { scopes = a i; numbers = b i; path = c i; names = d i }

module _ (ms : List Module) (depth : ℕ) where
  pub earlier_seen : (xs : Items) (at : Place) (n : ℕ) (names : List (List ℕ))
      → items_seen ms depth xs (with_earlier at names) n ≡ items_seen ms depth xs at n
  earlier_seen xs at n names =
      sym (placed.items_seen ms depth xs at n at.contents (at.earlier ++ names) at.modules)

  -- in a block of a turn
  pub turn_scope : (xs : Items) (ss : List Scope) (path inside text : List ℕ) (names : List (List ℕ)) (c : Const)
      → scope_seen ms depth xs (turn_place (place_in ss path names) text c) inside
      ≡ scope_seen ms depth xs (place_in (with_genvar text c ss) path names) inside
  turn_scope xs ss path inside text names c =
      let at = block_place (turn_place (place_in ss path names) text c) inside xs in
      let to = block_place (place_in (with_genvar text c ss) path names) inside xs in
      placed.items_seen ms depth xs at 1 to.contents to.earlier to.modules

  -- in a block
  pub block_here : (xs : Items) (ss : List Scope) (path inside : List ℕ) (names : List (List ℕ))
      → scope_seen ms depth xs (place_in ss path names) inside
      ≡ items_seen ms depth xs (place_in (block_scope ss inside xs ∷ ss) inside (all_names xs)) 1
  block_here xs ss path inside names =
      placed.items_seen ms depth xs (block_place (place_in ss path names) inside xs) 1 [] [] []
