-- Steps that are left behind others.
use Rattle.std.specs.Prelude.{◌≡◌, refl, ℕ, suc, ◌+◌, ◌-◌, ◌<◌, List, [], ◌++◌, Bool, true, false, is_some}
use Rattle.std.specs.Prelude.{Option, Some, None, if◌then◌else◌}
use Rattle.std.proofs.Common.{ap, sym, ◌∙◌, arith, subst, true≢false}
use Rattle.vl_tree.specs.declared.source.Module.{Module}
use Rattle.vl_tree.specs.Item.{Item, Items, no_items, more_items}
use Rattle.vl_mean.specs.declared.const_number.Const.{Const}
use Rattle.vl_mean.specs.Declarations.{names_of, constructs}
use Rattle.vl_mean.specs.Walk.{Place, Step, Unfolding, with_earlier, item_walk, items_walk, turns}
use Rattle.vl_elab_spec.specs.declared.elab_fault.ElabFault.{ElabFault}
use Rattle.vl_elab_spec.specs.Items.{is_valued}
use Rattle.vl_elab_spec.specs.Refused.{Totals, all_counted}
use Rattle.vl_elab_spec.specs.declared.totals.Totals as kept
use Rattle.vl_elab_spec.specs.Walked.{AreTotals, AreWalked}
use Rattle.vl_elab_spec.proofs.Passed.{none_walked, passed_walked, stopped_walked}
use Rattle.vl_elab_spec.specs.Left.{AreLeft, ItemsAreLeft}

-- behind all totals that are so much, these steps are walked so
abbrev pub WalkedFrom : List Module → kept.Totals → kept.Totals → List Step → Option ElabFault → Type 0
WalkedFrom ms walked new xs g = (b : Totals) → AreTotals walked b → AreWalked ms b new xs g

module _ (ms : List Module) where
  -- two parts, of which the second isn't looked at where the first is refused
  pub stops : (t : Totals) (new : kept.Totals) (xs ys : List Step) (g : Option ElabFault) → is_some g ≡ true
      → AreWalked ms t new xs g → AreWalked ms t new (xs ++ ys) g
  stops t new xs ys None e h = absurd (true≢false (sym e))
  stops t new xs ys (Some g) e h = stopped_walked ms t new xs ys g h

  pub goes_on : (t : Totals) (between new : kept.Totals) (xs ys : List Step) (f g : Option ElabFault)
      → is_some f ≡ false → AreWalked ms t between xs f → WalkedFrom ms between new ys g
      → AreWalked ms t new (xs ++ ys) g
  goes_on t between new xs ys None g e h k =
      passed_walked ms t between new xs ys g h (k (all_counted t xs) (h.totals refl))
  goes_on t between new xs ys (Some f) g e h k = absurd (true≢false e)

  module _ (t : Totals) (all : List Step) where
    pub left_all : (walked : kept.Totals) → AreTotals walked t → AreLeft ms t all walked all
    left_all walked h = record { behind = t; totals = h; follows = λ new g w. w }

    pub left_on : (walked new : kept.Totals) (xs ys : List Step) (g : Option ElabFault) → is_some g ≡ false
        → AreLeft ms t all walked (xs ++ ys) → WalkedFrom ms walked new xs g → AreLeft ms t all new ys
    left_on walked new xs ys None e h k =
        let w : AreWalked ms h.behind new xs None = k h.behind h.totals in record {
          behind = all_counted h.behind xs;
          totals = w.totals refl;
          follows = λ last g r. h.follows last g (passed_walked ms h.behind new last xs ys g w r);
        }
    left_on walked new xs ys (Some g) e h k = absurd (true≢false e)

    pub left_stops : (walked new : kept.Totals) (xs ys : List Step) (g : Option ElabFault) → is_some g ≡ true
        → AreLeft ms t all walked (xs ++ ys) → WalkedFrom ms walked new xs g → AreWalked ms t new all g
    left_stops walked new xs ys g e h k =
        h.follows new g (stops h.behind new xs ys g e (k h.behind h.totals))

    pub left_ends : (walked : kept.Totals) → AreLeft ms t all walked [] → AreWalked ms t walked all None
    left_ends walked h = h.follows walked None (none_walked ms h.behind walked h.totals)

    -- ---- items, one behind the other

    module _ (inner : Unfolding) where
      pub items_on : (walked new : kept.Totals) (Here Next : Place → Type 0) (x : Item) (xs : Items)
          (g : Option ElabFault) → is_some g ≡ false
          → ItemsAreLeft ms inner t all Here walked (more_items x xs)
          → ((at : Place) (n : ℕ) → Here at → WalkedFrom ms walked new (item_walk is_valued ms inner x at n) g)
          → ((at : Place) → Here at → Next (with_earlier at (names_of x)))
          → ItemsAreLeft ms inner t all Next new xs
      items_on walked new Here Next x xs g e h k next = record {
        at = with_earlier h.at (names_of x);
        number = h.number + constructs x;
        here = next h.at h.here;
        steps = left_on walked new (item_walk is_valued ms inner x h.at h.number)
            (items_walk is_valued ms inner xs (with_earlier h.at (names_of x)) (h.number + constructs x)) g e h.steps
            (k h.at h.number h.here);
      }

      pub items_stop : (walked new : kept.Totals) (Here : Place → Type 0) (x : Item) (xs : Items)
          (g : Option ElabFault) → is_some g ≡ true
          → ItemsAreLeft ms inner t all Here walked (more_items x xs)
          → ((at : Place) (n : ℕ) → Here at → WalkedFrom ms walked new (item_walk is_valued ms inner x at n) g)
          → AreWalked ms t new all g
      items_stop walked new Here x xs g e h k =
          left_stops walked new (item_walk is_valued ms inner x h.at h.number)
          (items_walk is_valued ms inner xs (with_earlier h.at (names_of x)) (h.number + constructs x)) g e h.steps
          (k h.at h.number h.here)

      pub items_end : (walked : kept.Totals) (Here : Place → Type 0)
          → ItemsAreLeft ms inner t all Here walked no_items → AreWalked ms t walked all None
      items_end walked Here h = left_ends walked h.steps

    -- ---- turns of a loop

    module _ (goes : Const → Bool) (next : Const → Const) (body : Const → List Step) where
      one_less : (n : ℕ) → 0 < n → n ≡ suc (n - 1)
      one_less n h = omega (arith, h)

      -- a turn that begins, and what comes behind it
      begun : (walked : kept.Totals) (n : ℕ) (c : Const) → 0 < n → goes c ≡ true
          → AreLeft ms t all walked (turns n goes next body c)
          → AreLeft ms t all walked (body c ++ turns (n - 1) goes next body (next c))
      begun walked n c positive e h =
          subst (AreLeft ms t all walked)
          (ap (λ k. turns k goes next body c) (one_less n positive)
          ∙ ap (λ b. if b then body c ++ turns (n - 1) goes next body (next c) else []) e) h

      some_goes : (b : Bool) (c v : Const) → Some v ≡ (if b then Some (next c) else None) → b ≡ true
      some_goes true c v e = refl
      some_goes false c v e = cc

      some_next : (b : Bool) (c v : Const) → Some v ≡ (if b then Some (next c) else None) → next c ≡ v
      some_next true c v e = cc
      some_next false c v e = cc

      none_goes : (b : Bool) (c : Const) → None ≡ (if b then Some (next c) else None) → b ≡ false
      none_goes true c e = cc
      none_goes false c e = refl

      pub turns_on : (walked new : kept.Totals) (n : ℕ) (c v : Const) (g : Option ElabFault) → 0 < n
          → Some v ≡ (if goes c then Some (next c) else None) → is_some g ≡ false
          → AreLeft ms t all walked (turns n goes next body c) → WalkedFrom ms walked new (body c) g
          → AreLeft ms t all new (turns (n - 1) goes next body v)
      turns_on walked new n c v g positive chosen e h k =
          subst (λ w. AreLeft ms t all new (turns (n - 1) goes next body w)) (some_next (goes c) c v chosen)
          (left_on walked new (body c) (turns (n - 1) goes next body (next c)) g e
          (begun walked n c positive (some_goes (goes c) c v chosen) h) k)

      pub turns_stop : (walked new : kept.Totals) (n : ℕ) (c v : Const) (g : Option ElabFault) → 0 < n
          → Some v ≡ (if goes c then Some (next c) else None) → is_some g ≡ true
          → AreLeft ms t all walked (turns n goes next body c) → WalkedFrom ms walked new (body c) g
          → AreWalked ms t new all g
      turns_stop walked new n c v g positive chosen e h k =
          left_stops walked new (body c) (turns (n - 1) goes next body (next c)) g e
          (begun walked n c positive (some_goes (goes c) c v chosen) h) k

      pub turns_end : (walked : kept.Totals) (n : ℕ) (c : Const) → 0 < n
          → None ≡ (if goes c then Some (next c) else None)
          → AreLeft ms t all walked (turns n goes next body c) → AreWalked ms t walked all None
      turns_end walked n c positive chosen h =
          left_ends walked (subst (AreLeft ms t all walked)
          (ap (λ k. turns k goes next body c) (one_less n positive)
          ∙ ap (λ b. if b then body c ++ turns (n - 1) goes next body (next c) else [])
          (none_goes (goes c) c chosen)) h)

      -- behind the last one that may be taken
      pub turns_gone : (walked : kept.Totals) (n : ℕ) (c : Const) → n ≡ 0
          → AreLeft ms t all walked (turns n goes next body c) → AreWalked ms t walked all None
      turns_gone walked n c e h =
          left_ends walked (subst (AreLeft ms t all walked) (ap (λ k. turns k goes next body c) e) h)
