-- How many regions are open along a list of items.
use Rattle.std.proofs.Common.{◌≡◌, ℕ, zero, suc, List, Option, Some, None, refl, sym, ap, ◌∙◌, subst}
use Rattle.fv_text.specs.declared.kind.Kind.{Kind}
use Rattle.vl_tree.specs.declared.item.RegionMark.{RegionMark}
use Rattle.vl_tree.specs.declared.item.RegionMark.TheVariants as mark
use Rattle.vl_tree.specs.Item.{Item, Items, generate, no_items, more_items}
use Rattle.vl_tree.specs.ItemSpelling.{spell, spell_all}
use Rattle.vl_tree.specs.WellFormed.{mark_of, open_behind_mark, open_behind, AreBalanced, AreWellFormed}
use Rattle.vl_parse_grammar.proofs.Onto.{onto}

-- no `endgenerate`
abbrev pub NoClose : Item → Type 0
NoClose (generate attrs p mark.Close) = ⊥
NoClose x = Unit {0}

pub some_none : {A : Type 0} (x : RegionMark) → ◌≡◌ {A = Option RegionMark} (Some x) None → A
some_none x h = absurd (no h)
  where
    no : ◌≡◌ {A = Option RegionMark} (Some x) None → ⊥
    no h = cc

pub no_number : {A : Type 0} (n : ℕ) → ◌≡◌ {A = Option ℕ} None (Some n) → A
no_number n h = absurd (no h)
  where
    no : ◌≡◌ {A = Option ℕ} None (Some n) → ⊥
    no h = cc

pub no_open : {A : Type 0} (n : ℕ) → ◌≡◌ {A = Option ℕ} (Some (suc n)) (Some 0) → A
no_open n h = absurd (no h)
  where
    no : ◌≡◌ {A = Option ℕ} (Some (suc n)) (Some 0) → ⊥
    no h = cc

pub no_mark : (x : Item) → mark_of x ≡ None → NoClose x
no_mark (generate attrs p m) h = some_none m h
no_mark x h = tt

-- where a region is ended that isn't open, nothing mends it
pub none_behind : (xs : Items) → open_behind xs None ≡ None
none_behind no_items = refl
none_behind (more_items (generate attrs p mark.Open) xs) = none_behind xs
none_behind (more_items (generate attrs p mark.Close) xs) = none_behind xs
none_behind (more_items x xs) = none_behind xs

pub never : {A : Type 0} (xs : Items) (n : ℕ) → open_behind xs None ≡ Some n → A
never xs n h = no_number n (sym (none_behind xs) ∙ h)

-- no list begins by the end of a region that isn't open
pub first_opens : (x : Item) (xs : Items) → AreBalanced (more_items x xs) → NoClose x
first_opens (generate attrs p mark.Open) xs h = tt
first_opens (generate attrs p mark.Close) xs h = never xs 0 h
first_opens x xs h = tt

-- one list behind the other
abbrev pub joined : Items → Items → Items
joined no_items ys = ys
joined (more_items x xs) ys = more_items x (joined xs ys)

pub joined_spelled : (xs ys : Items) (ks : List Kind)
    → onto (spell_all (joined xs ys)) ks ≡ onto (spell_all xs) (onto (spell_all ys) ks)
joined_spelled no_items ys ks = refl
joined_spelled (more_items x xs) ys ks = ap (onto (spell x)) (joined_spelled xs ys ks)

pub joined_formed : (xs ys : Items) → AreWellFormed xs → AreWellFormed ys → AreWellFormed (joined xs ys)
joined_formed no_items ys h i = i
joined_formed (more_items x xs) ys h i = (h.0, joined_formed xs ys h.1 i)

pub joined_behind : (xs ys : Items) (n : Option ℕ) → open_behind (joined xs ys) n ≡ open_behind ys (open_behind xs n)
joined_behind no_items ys n = refl
joined_behind (more_items x xs) ys n = joined_behind xs ys (open_behind_mark (mark_of x) n)

abbrev one_more : Option ℕ → Option ℕ
one_more None = None
one_more (Some n) = Some (suc n)

-- the same in one region more
deeper : (xs : Items) (n m : ℕ) → open_behind xs (Some n) ≡ Some m → open_behind xs (Some (suc n)) ≡ Some (suc m)
deeper no_items n m h = ap one_more h
deeper (more_items (generate attrs p mark.Open) xs) n m h = deeper xs (suc n) m h
deeper (more_items (generate attrs p mark.Close) xs) zero m h = never xs m h
deeper (more_items (generate attrs p mark.Close) xs) (suc n) m h = deeper xs n m h
deeper (more_items x xs) n m h = deeper xs n m h

-- a region with what stands in it, before other items
pub region_behind : (xs ys : Items) → AreBalanced xs → open_behind (joined xs ys) (Some 1) ≡ open_behind ys (Some 1)
region_behind xs ys h = joined_behind xs ys (Some 1) ∙ ap (open_behind ys) (deeper xs 0 0 h)

-- an item that is no mark
pub unmarked_behind : (x : Item) (xs : Items) (n : Option ℕ) → mark_of x ≡ None
    → open_behind (more_items x xs) n ≡ open_behind xs n
unmarked_behind x xs n h = ap (λ m. open_behind xs (open_behind_mark m n)) h
