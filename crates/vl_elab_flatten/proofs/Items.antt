-- What is seen of items, of what is in them and of blocks.
use Rattle.std.specs.Prelude.{◌≡◌, refl, ℕ, zero, suc, ◌+◌, ◌-◌, ◌≤◌, ◌<◌, List, [], ◌∷◌, ◌++◌, take, drop, length, min}
use Rattle.std.specs.Prelude.{Bool, true, false, Option, Some, None, codes, if◌then◌else◌}
use Rattle.std.specs.Option.{option_map}
use Rattle.std.proofs.Common.{ap, sym, ◌∙◌, subst, arith}
use Rattle.fv_text.specs.declared.pos.Pos.{Pos}
use Rattle.vl_tree.specs.declared.item.Block as declared
use Rattle.vl_tree.specs.declared.item.ItemKind.TheVariants as k
use Rattle.vl_tree.specs.declared.part.LoopHead.{LoopHead}
use Rattle.vl_tree.specs.declared.source.Module.{Module}
use Rattle.vl_tree.specs.Attributes.{Attributes}
use Rattle.vl_tree.specs.Expr.{Expr}
use Rattle.vl_tree.specs.Item.{
  Block,
  Item,
  Items,
  assign,
  always,
  begin,
  declaration,
  depth,
  for_loop,
  generate,
  genvar,
  if_else,
  if_only,
  initial,
  instance,
  integer,
  items,
  more_items,
  parameter,
  region,
  single,
}
use Rattle.vl_tree.specs.ItemView.{block, shown}
use Rattle.vl_size.specs.declared.decl.Decl.{Decl}
use Rattle.vl_size.specs.Size.{is_true}
use Rattle.vl_mean.specs.declared.const_number.Const.{Const}
use Rattle.vl_mean.specs.Constants.{constant_operand}
use Rattle.vl_mean.specs.Declarations.{block_name, constructs, declared, declared_by, is_if, label_of, names_of}
use Rattle.vl_mean.specs.Parts.{item_parts}
use Rattle.vl_mean.specs.Runs.{Each}
use Rattle.vl_mean.specs.Scopes.{Scope, constant_in}
use Rattle.vl_mean.specs.Walk.{block_step}
use Rattle.vl_mean.specs.Walk.{Place, Step, all_valued, item, item_steps, items_steps, turns}
use Rattle.vl_mean.specs.Walk.{turn_path, turn_place, unfolded, with_earlier}
use Rattle.vl_elab_spec.specs.Meanings.{Names}
use Rattle.vl_elab_spec.specs.Refused.{nowhere}
use Rattle.vl_elab_const.specs.Numbers.{HaveNumbers, holds}
use Rattle.vl_mean_flat.specs.DriverPlaces.{item_places}
use Rattle.vl_mean_flat.specs.Seen.{Seen, parts_of_seen, places_of_seen, seen_step, seen_steps}
use Rattle.vl_elab_spec.specs.Within.{block_items, chosen_block, chosen_steps, nested_if}
use Rattle.vl_elab_spec.proofs.Inner.{if_steps, nested_item, own_and_inner, scope_items, turn_items}
use Rattle.vl_elab_draft.specs.Written.{Written}
use Rattle.vl_elab_emit.specs.Behind.{MayStandBehind, StandBehind, followed_by}
use Rattle.vl_elab_emit.specs.OwnParts.{own_parts, own_placed}
use Rattle.vl_elab_emit.proofs.Standing.{both_behind, may_back, may_front}
use Rattle.vl_elab_flatten.specs.Ready.{
  CanBeOpened,
  IsReady,
  Writes,
  block_seen,
  inner_seen,
  item_seen,
  items_seen,
  placed_seen,
  scope_seen,
  turn_seen,
}
use Rattle.vl_elab_flatten.proofs.Places.{earlier_seen}
use Rattle.vl_elab_flatten.proofs.Seens.{Left, left_on, seen_append}

-- ---- declarations of items in order

take_all : {A : Type 0} (xs ys : List A) → take (length xs) (xs ++ ys) ≡ xs
take_all [] ys = refl
take_all (x ∷ xs) ys = ap (λ zs. x ∷ zs) (take_all xs ys)

drop_all : {A : Type 0} (xs ys : List A) → drop (length xs) (xs ++ ys) ≡ ys
drop_all [] ys = refl
drop_all (x ∷ xs) ys = drop_all xs ys

length_front : {A : Type 0} (xs ys : List A) → length xs ≤ length (xs ++ ys)
length_front [] ys = omega arith
length_front (x ∷ xs) ys = let less : length xs ≤ length (xs ++ ys) = length_front xs ys in omega (arith, less)

pub first_of : {A : Type 0} (ds xs ys : List A) (n : ℕ) → ds ≡ xs ++ ys → n ≡ min (length xs) (length ds)
    → take n ds ≡ xs
first_of ds xs ys n e count =
    let few : length xs ≤ length (xs ++ ys) = length_front xs ys in
    let all : n ≡ length xs = count ∙ ap (λ zs. min (length xs) (length zs)) e ∙ omega (arith, few) in
    (λ i. take (all i) (e i)) ∙ take_all xs ys

pub second_of : {A : Type 0} (ds xs ys : List A) (n : ℕ) → ds ≡ xs ++ ys → n ≡ min (length xs) (length ds)
    → drop n ds ≡ ys
second_of ds xs ys n e count =
    let few : length xs ≤ length (xs ++ ys) = length_front xs ys in
    let all : n ≡ length xs = count ∙ ap (λ zs. min (length xs) (length zs)) e ∙ omega (arith, few) in
    (λ i. drop (all i) (e i)) ∙ drop_all xs ys

pub both_declared : (ss : List Scope) (left rest : List Item) (x : Item) (ds : List Decl) → left ≡ x ∷ rest
    → ds ≡ declared ss (items left) → ds ≡ declared_by ss x ++ declared ss (items rest)
both_declared ss left rest x ds e all = all ∙ ap (λ xs. declared ss (items xs)) e

-- an `if` declares nothing
nested_none : (ss : List Scope) (x : Item) → is_if x ≡ true → declared_by ss x ≡ []
nested_none ss (declaration attrs p d) e = cc
nested_none ss (integer attrs p xs) e = cc
nested_none ss (genvar attrs p xs) e = refl
nested_none ss (parameter attrs p kind xs) e = refl
nested_none ss (assign attrs p xs) e = refl
nested_none ss (always attrs p event s) e = refl
nested_none ss (initial attrs p s) e = refl
nested_none ss (instance attrs p x) e = refl
nested_none ss (generate attrs p mark) e = refl
nested_none ss (for_loop attrs p head b) e = refl
nested_none ss (if_only attrs p c b) e = refl
nested_none ss (if_else attrs p c b d) e = refl

pub nested_declares : (ss : List Scope) (b : Block) (x : Item) → nested_if b ≡ Some x → [] ≡ declared_by ss x
nested_declares ss (begin p label xs) x e = cc
nested_declares ss (region p xs) x e = cc
nested_declares ss (single y) x e = by (is_if y) refl e
  where
    by : (b : Bool) → is_if y ≡ b → (if b then Some y else None) ≡ Some x → [] ≡ declared_by ss x
    by true k h = let same : y ≡ x = cc in sym (nested_none ss x (ap is_if (sym same) ∙ k))
    by false k h = cc

pub if_falls : (a : Attributes) (p : Pos) (c : Expr) (first : declared.Block) (second : Option declared.Block)
    → depth (shown a p (k.If c first second)) ≡ depth (shown [] nowhere (k.If c first second))
if_falls a p c first None = refl
if_falls a p c first (Some second) = refl

-- ---- the parts of an item by itself

own_is : (at : Place) (x : Item) → item_parts at x ≡ own_parts at.scopes at.path (declared_by at.around x) x
own_is at (declaration attrs p d) = refl
own_is at (integer attrs p xs) = refl
own_is at (genvar attrs p xs) = refl
own_is at (parameter attrs p kind xs) = refl
own_is at (assign attrs p xs) = refl
own_is at (always attrs p event s) = refl
own_is at (initial attrs p s) = refl
own_is at (instance attrs p x) = refl
own_is at (generate attrs p mark) = refl
own_is at (for_loop attrs p head b) = refl
own_is at (if_only attrs p c b) = refl
own_is at (if_else attrs p c b d) = refl

module _ (ms : List Module) (depth : ℕ) where
  -- an item and what is in it
  pub item_split : (x : Item) (at : Place) (n : ℕ)
      → item_seen ms depth x at n ≡ seen_step (item at x) ∷ inner_seen ms depth x at n
  item_split x at n = ap seen_steps (sym (own_and_inner all_valued ms (unfolded depth ms) x at n))

  module _ (w : Written) (x : Item) (at : Place) (n : ℕ) (ds : List Decl) (e : ds ≡ declared_by at.around x)
      (ready : IsReady w (item_seen ms depth x at n)) where
    own : item_parts at x ≡ own_parts at.scopes at.path ds x
    own = own_is at x ∙ ap (λ es. own_parts at.scopes at.path es x) (sym e)

    parts : parts_of_seen (item_seen ms depth x at n)
        ≡ own_parts at.scopes at.path ds x ++ parts_of_seen (inner_seen ms depth x at n)
    parts =
        ap parts_of_seen (item_split x at n) ∙ ap (λ ps. ps ++ parts_of_seen (inner_seen ms depth x at n)) own

    places : places_of_seen (item_seen ms depth x at n)
        ≡ item_places at.scopes x ++ places_of_seen (inner_seen ms depth x at n)
    places = ap places_of_seen (item_split x at n)

    placed : placed_seen (item_seen ms depth x at n)
        ≡ followed_by (own_placed at.scopes at.path ds x) (placed_seen (inner_seen ms depth x at n))
    placed = λ i. record { parts = parts i; places = places i }

    pub own_may : MayStandBehind w (own_parts at.scopes at.path ds x)
    own_may =
        may_front w (own_parts at.scopes at.path ds x) (parts_of_seen (inner_seen ms depth x at n))
        (subst (MayStandBehind w) parts ready.may)

    pub inner_ready : (v : Written) → StandBehind w (own_placed at.scopes at.path ds x) v
        → IsReady v (inner_seen ms depth x at n)
    inner_ready v h = record {
      openable = (subst (Each CanBeOpened) (item_split x at n) ready.openable).1;
      may = may_back w v (own_placed at.scopes at.path ds x) (parts_of_seen (inner_seen ms depth x at n))
          (subst (MayStandBehind w) parts ready.may) h;
    }

    pub item_written : (v u : Written) → StandBehind w (own_placed at.scopes at.path ds x) v
        → Writes v (inner_seen ms depth x at n) u → Writes w (item_seen ms depth x at n) u
    item_written v u h k =
        subst (λ ps. StandBehind w ps u) (sym placed)
        (both_behind w v u (own_placed at.scopes at.path ds x) (placed_seen (inner_seen ms depth x at n)) h k)

  -- ---- items, one behind the other

  pub items_split : (x : Item) (xs : Items) (at : Place) (n : ℕ)
      → items_seen ms depth (more_items x xs) at n
      ≡ item_seen ms depth x at n ++ items_seen ms depth xs at (n + constructs x)
  items_split x xs at n =
      seen_append (item_steps ms (unfolded depth ms) x at n)
      (items_steps ms (unfolded depth ms) xs (with_earlier at (names_of x)) (n + constructs x))
      ∙ ap (λ ys. item_seen ms depth x at n ++ ys) (earlier_seen ms depth xs at (n + constructs x) (names_of x))

  pub items_left : (left rest : List Item) (x : Item) (at : Place) (n : ℕ) → left ≡ x ∷ rest
      → items_seen ms depth (items left) at n
      ≡ item_seen ms depth x at n ++ items_seen ms depth (items rest) at (n + constructs x)
  items_left left rest x at n e =
      ap (λ xs. items_seen ms depth (items xs) at n) e ∙ items_split x (items rest) at n

  -- ---- what is in an item

  -- of an `if` its attributes and its place don't count
  pub if_alike : (a : Attributes) (p : Pos) (b : Attributes) (q : Pos) (c : Expr) (first : declared.Block)
      (second : Option declared.Block) (at : Place) (n : ℕ)
      → inner_seen ms depth (shown a p (k.If c first second)) at n
      ≡ inner_seen ms depth (shown b q (k.If c first second)) at n
  if_alike a p b q c first None at n = refl
  if_alike a p b q c first (Some second) at n = refl

  pub nothing_within : (y x : Item) (at : Place) (n : ℕ) → y ≡ x → inner_seen ms depth y at n ≡ []
      → inner_seen ms depth x at n ≡ []
  nothing_within y x at n same e = ap (λ (z : Item). inner_seen ms depth z at n) (sym same) ∙ e

  test_is : (ns : List Names) (ss : List Scope) (c : Expr) → HaveNumbers ns ss
      → is_true (constant_operand (constant_in ss) c) ≡ holds ns c
  test_is ns ss c h = λ i. is_true (constant_operand (λ text. sym (h text) i) c)

  module _ (a : Attributes) (p : Pos) (c : Expr) (first : declared.Block) (second : Option declared.Block)
      (at : Place) (n : ℕ) (ns : List Names) (h : HaveNumbers ns at.scopes) (test : Bool) (e : test ≡ holds ns c)
    where
      if_chosen : (o : Option Block) → o ≡ chosen_block test (block first) (option_map block second)
          → inner_seen ms depth (shown a p (k.If c first second)) at n
          ≡ seen_steps (chosen_steps ms (unfolded depth ms) o at n)
      if_chosen o same =
          ap seen_steps (sym (if_steps all_valued ms (unfolded depth ms) a p c first second at n test refl
          (test_is ns at.scopes c h ∙ sym e)))
          ∙ ap (λ q. seen_steps (chosen_steps ms (unfolded depth ms) q at n)) (sym same)

      pub none_chosen : None ≡ chosen_block test (block first) (option_map block second)
          → inner_seen ms depth (shown a p (k.If c first second)) at n ≡ []
      none_chosen same = if_chosen None same

      pub some_chosen : (b : Block) → Some b ≡ chosen_block test (block first) (option_map block second)
          → inner_seen ms depth (shown a p (k.If c first second)) at n ≡ block_seen ms depth b at n
      some_chosen b same = if_chosen (Some b) same

  -- ---- blocks

  pub block_nested : (b : Block) (x : Item) (at : Place) (n : ℕ) → nested_if b ≡ Some x
      → block_seen ms depth b at n ≡ seen_step (block_step at b) ∷ item_seen ms depth x at n
  block_nested b x at n e = ap seen_steps (sym (nested_item all_valued ms (unfolded depth ms) b x at n e))

  pub block_scoped : (b : Block) (xs : Items) (at : Place) (n : ℕ) (path : List ℕ) → nested_if b ≡ None
      → xs ≡ block_items b → path ≡ at.path ++ block_name at.names n (label_of b) ++ codes "."
      → block_seen ms depth b at n ≡ seen_step (block_step at b) ∷ scope_seen ms depth xs at path
  block_scoped b xs at n path e same path_is =
      ap seen_steps (sym (scope_items all_valued ms (unfolded depth ms) b at n e))
      ∙ (λ i. seen_step (block_step at b) ∷ scope_seen ms depth (sym same i) at (sym path_is i))

  pub turn_scoped : (head : LoopHead) (b : Block) (xs : Items) (at : Place) (label : List ℕ) (c : Const)
      (path : List ℕ) → xs ≡ block_items b → path ≡ turn_path at.path label c
      → turn_seen ms depth head b at label c
      ≡ seen_step (block_step (turn_place at head.variable c) b)
      ∷ scope_seen ms depth xs (turn_place at head.variable c) path
  turn_scoped head b xs at label c path same path_is =
      ap seen_steps (sym (turn_items all_valued ms (unfolded depth ms) b (turn_place at head.variable c)
      (turn_path at.path label c)))
      ∙ (λ i. seen_step (block_step (turn_place at head.variable c) b)
      ∷ scope_seen ms depth (sym same i) (turn_place at head.variable c) (sym path_is i))

-- ---- turns of a loop, one behind the other

module _ (start : Written) (all : List Seen) (goes : Const → Bool) (next : Const → Const) (body : Const → List Step)
  where
    abbrev pub TurnsLeft : Written → ℕ → Const → Type 0
    TurnsLeft w n c = Left start all w (seen_steps (turns n goes next body c))

    one_less : (n : ℕ) → 0 < n → n ≡ suc (n - 1)
    one_less n h = omega (arith, h)

    -- a turn that begins, and what comes behind it
    pub begun : (n : ℕ) (c : Const) → 0 < n → goes c ≡ true
        → seen_steps (turns n goes next body c)
        ≡ seen_steps (body c) ++ seen_steps (turns (n - 1) goes next body (next c))
    begun n c positive e =
        ap (λ k. seen_steps (turns k goes next body c)) (one_less n positive)
        ∙ ap (λ b. seen_steps (if b then body c ++ turns (n - 1) goes next body (next c) else [])) e
        ∙ seen_append (body c) (turns (n - 1) goes next body (next c))

    pub some_goes : (b : Bool) (c v : Const) → Some v ≡ (if b then Some (next c) else None) → b ≡ true
    some_goes true c v e = refl
    some_goes false c v e = cc

    pub some_next : (b : Bool) (c v : Const) → Some v ≡ (if b then Some (next c) else None) → next c ≡ v
    some_next true c v e = cc
    some_next false c v e = cc

    none_goes : (b : Bool) (c : Const) → None ≡ (if b then Some (next c) else None) → b ≡ false
    none_goes true c e = cc
    none_goes false c e = refl

    pub turns_on : (w v : Written) (n : ℕ) (c d : Const) → 0 < n
        → Some d ≡ (if goes c then Some (next c) else None) → TurnsLeft w n c → Writes w (seen_steps (body c)) v
        → TurnsLeft v (n - 1) d
    turns_on w v n c d positive chosen h k =
        subst (λ e. TurnsLeft v (n - 1) e) (some_next (goes c) c d chosen)
        (left_on start all w v (seen_steps (turns n goes next body c)) (seen_steps (body c))
        (seen_steps (turns (n - 1) goes next body (next c)))
        (begun n c positive (some_goes (goes c) c d chosen)) h k)

    pub turns_stopped : (n : ℕ) (c : Const) → None ≡ (if goes c then Some (next c) else None)
        → seen_steps (turns n goes next body c) ≡ []
    turns_stopped n c e = by n
      where
        by : (n : ℕ) → seen_steps (turns n goes next body c) ≡ []
        by zero = refl
        by (suc n) =
            ap (λ b. seen_steps (if b then body c ++ turns n goes next body (next c) else []))
            (none_goes (goes c) c e)
