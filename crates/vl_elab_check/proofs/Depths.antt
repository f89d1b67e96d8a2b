-- What the functions that go through a design count down: modules in one another, and blocks in one another.
use Rattle.std.specs.Prelude.{◌≡◌, ℕ, zero, suc, ◌+◌, ◌-◌, ◌*◌, ◌<◌, ◌≤◌, List, [], ◌∷◌, drop, max}
use Rattle.std.proofs.Common.{ap, arith, subst, sym}
use Rattle.vl_tree.specs.Item.{Block, Item, Items, items, block_depth, depth, items_depth}
use Rattle.vl_elab_spec.specs.Within.{block_items}
use Rattle.vl_elab_spec.proofs.Inner.{block_falls}

drop_depth : (i : ℕ) (xs : List Item) → items_depth (items (drop i xs)) ≤ items_depth (items xs)
drop_depth zero xs = omega arith
drop_depth (suc i) [] = omega arith
drop_depth (suc i) (x ∷ xs) = omega (arith, drop_depth i xs)

-- an item of a list
pub part_depth : (i : ℕ) (xs : List Item) (x : Item) (rest : List Item) → drop i xs ≡ x ∷ rest
    → depth x ≤ items_depth (items xs)
part_depth i xs x rest e =
    let deep : items_depth (items (drop i xs)) ≡ max (depth x) (items_depth (items rest)) =
    ap (λ ys. items_depth (items ys)) e in
    omega (arith, drop_depth i xs)

-- the items of a block
pub slice_depth : (b : Block) (xs : Items) → xs ≡ block_items b → items_depth xs ≤ block_depth b
slice_depth b xs e = subst (λ ys. items_depth ys ≤ block_depth b) (sym e) (block_falls b)

module_falls : (n deepest deep : ℕ) → deep ≤ deepest
    → n * (8 * deepest + 8) + 8 * deep + 4 < suc n * (8 * deepest + 8)
module_falls n deepest deep h = omega (arith, h)

-- a module below another one
pub module_below : (n deepest deep : ℕ) → 0 < n → deep ≤ deepest
    → (n - 1) * (8 * deepest + 8) + 8 * deep + 4 < n * (8 * deepest + 8)
module_below n deepest deep positive h =
    subst (λ k. (n - 1) * (8 * deepest + 8) + 8 * deep + 4 < k * (8 * deepest + 8)) same
    (module_falls (n - 1) deepest deep h)
  where
    same : suc (n - 1) ≡ n
    same = omega (arith, positive)
