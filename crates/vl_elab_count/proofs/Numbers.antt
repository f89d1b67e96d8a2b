-- What is counted over the numbers of constants is what the definitions count over the scopes.
use Rattle.std.specs.Prelude.{◌≡◌, refl, ℕ, zero, suc, ◌+◌, List, [], ◌∷◌, Bool, true, false, bytes_eq}
use Rattle.std.specs.Prelude.{Option, Some, None, if◌then◌else◌}
use Rattle.std.proofs.Common.{ap, sym, ◌∙◌, subst}
use Rattle.fv_text.specs.declared.pos.Pos.{Pos}
use Rattle.vl_tree.specs.Attributes.{Attributes}
use Rattle.vl_tree.specs.declared.declaration.DeclaredName.{DeclaredName}
use Rattle.vl_tree.specs.declared.declaration.Range.{Range}
use Rattle.vl_tree.specs.declared.declaration.Shape.{Shape}
use Rattle.vl_tree.specs.declared.part.LoopHead.{LoopHead}
use Rattle.vl_tree.specs.declared.item.Block as declared
use Rattle.vl_tree.specs.declared.item.ItemKind.TheVariants as k
use Rattle.vl_tree.specs.ItemView.{shown}
use Rattle.vl_tree.specs.Item.{Item, declaration, integer, genvar, parameter, assign, always, initial, instance}
use Rattle.vl_tree.specs.Item.{generate, for_loop, if_only, if_else}
use Rattle.vl_size.specs.declared.decl.Class.{Class}
use Rattle.vl_size.specs.declared.decl.Class.TheVariants as class
use Rattle.vl_size.specs.Size.{index_of, is_true}
use Rattle.vl_size.specs.Table.{span}
use Rattle.vl_mean.specs.declared.const_number.Const.{Const}
use Rattle.vl_mean.specs.ConstantFaults.{capped}
use Rattle.vl_mean.specs.Constants.{constant_operand}
use Rattle.vl_mean.specs.Declarations.{class_of_attributes, class_of_kind, declared_by, declared_integers}
use Rattle.vl_mean.specs.Declarations.{declared_names, joined_attributes, word_bounds}
use Rattle.vl_mean.specs.FlatLaw.{all_names_count, name_count as count_of, nodes}
use Rattle.vl_mean.specs.Scopes.{Scope, constant_in, constant_unless}
use Rattle.vl_mean.specs.Walk.{Place, with_genvar, goes_on, next_turn, first_turn, genvar_value}
use Rattle.vl_elab_spec.specs.Counts as counts
use Rattle.vl_elab_spec.specs.Meanings.{Names, undeclared, constant, is_undeclared, meaning_in, constants, value_of}
use Rattle.vl_elab_const.specs.Numbers.{HaveNumbers, holds, genvar_number}
use Rattle.vl_elab_count.specs.Parts.{TurnsHave}
use Rattle.vl_elab_check_item.specs.declared.reach.HeadValues.{HeadValues}
use Rattle.vl_elab_check_item.specs.TurnParts.{GoesBy, in_turn}
use Rattle.vl_elab_count.specs.Counts.{name_count, names_count, item_count, turn_nodes, one_turn_nodes, begun_nodes}

-- ---- names

module _ (ns : List Names) (ss : List Scope) (h : HaveNumbers ns ss) where
  pub one_name : (r : Option Range) → name_count ns r ≡ count_of (word_bounds ss r)
  one_name None = refl
  one_name (Some r) =
      λ i. span (index_of (constant_operand (λ text. h text i) r.left))
      (index_of (constant_operand (λ text. h text i) r.right)) + 1

  all_names : (c : Class) (shape : Shape) (xs : List DeclaredName)
      → names_count ns xs ≡ all_names_count (declared_names ss c shape xs)
  all_names c shape [] = refl
  all_names c shape (x ∷ xs) = λ i. one_name x.words i + all_names c shape xs i

  all_integers : (c : Class) (xs : List DeclaredName)
      → names_count ns xs ≡ all_names_count (declared_integers ss c xs)
  all_integers c [] = refl
  all_integers c (x ∷ xs) = λ i. one_name x.words i + all_integers c xs i

  pub same_count : (x : Item) → item_count ns x ≡ all_names_count (declared_by ss x)
  same_count (declaration attrs p d) =
      all_names (class_of_attributes (class_of_kind d.net) (joined_attributes attrs)) d.shape d.names
  same_count (integer attrs p xs) = all_integers (class_of_attributes class.Variable (joined_attributes attrs)) xs
  same_count (genvar attrs p xs) = refl
  same_count (parameter attrs p kind xs) = refl
  same_count (assign attrs p xs) = refl
  same_count (always attrs p event x) = refl
  same_count (initial attrs p x) = refl
  same_count (instance attrs p x) = refl
  same_count (generate attrs p mark) = refl
  same_count (for_loop attrs p head b) = refl
  same_count (if_only attrs p c b) = refl
  same_count (if_else attrs p c b d) = refl

-- ---- turns

module _ (ns : List Names) (at : Place) (h : HaveNumbers ns at.scopes) (head : LoopHead) where
  pub inside : (c : Const) (text : List ℕ)
      → constants (in_turn head.variable c ns) text ≡ constant_in (with_genvar head.variable c at.scopes) text
  inside c text = by (bytes_eq text head.variable)
    where
      by : (b : Bool)
          → value_of (if is_undeclared (if b then constant c true else undeclared) then meaning_in ns text
          else (if b then constant c true else undeclared))
          ≡ constant_unless (if b then Some c else None) false (constant_in at.scopes text)
      by true = refl
      by false = h text

  same_turns : (n : ℕ) (c : Const) → turn_nodes n ns head c ≡ counts.turn_nodes n head at c
  same_turns zero c = refl
  same_turns (suc n) c =
      let goes : holds (in_turn head.variable c ns) head.condition ≡ goes_on head at.scopes c =
      λ i. is_true (constant_operand (λ text. inside c text i) head.condition) in
      let next : genvar_number (in_turn head.variable c ns) head.next ≡ next_turn head at.scopes c =
      λ i. genvar_value (constant_operand (λ text. inside c text i) head.next) in
      (λ i. nodes head.condition + (if goes i then nodes head.next + turn_nodes n ns head (next i) else 0))
      ∙ ap (λ more. nodes head.condition + (if goes_on head at.scopes c then nodes head.next + more else 0))
      (same_turns n (next_turn head at.scopes c))

  pub first : genvar_number ns head.start ≡ first_turn head at.scopes
  first = λ i. genvar_value (constant_operand (λ text. h text i) head.start)

  all_turns : turn_nodes 4096 ns head (genvar_number ns head.start)
      ≡ counts.turn_nodes 4096 head at (first_turn head at.scopes)
  all_turns = ap (turn_nodes 4096 ns head) first ∙ same_turns 4096 (first_turn head at.scopes)

  one_turn : one_turn_nodes ns head (genvar_number ns head.start)
      ≡ counts.one_turn_nodes head at (first_turn head at.scopes)
  one_turn =
      ap (one_turn_nodes ns head) first
      ∙ (λ i. nodes head.condition
      + (if is_true (constant_operand (λ text. inside (first_turn head at.scopes) text i) head.condition)
      then nodes head.next else 0))

  -- by what has a value in the head
  module _ (values : HeadValues) (by : GoesBy values head at) where
    abbrev chosen : Bool → Bool → ℕ
    chosen turns further =
        let first = first_turn head at.scopes in
        let some = if further then counts.turn_nodes 4096 head at first else counts.one_turn_nodes head at first in
        if turns then some else nodes head.condition

    by_values : (turns further : Bool) → values.turns ≡ turns → values.further ≡ further
        → chosen turns further ≡ counts.loop_nodes head at
    by_values turns further t f = λ i. chosen ((sym t ∙ by.turns) i) ((sym f ∙ by.further) i)

    begun_at : (further : Bool) → begun_nodes further ns head ≡ chosen true further
    begun_at true = all_turns
    begun_at false = one_turn

    pub no_turn : values.turns ≡ false → capped (nodes head.condition) ≡ capped (counts.loop_nodes head at)
    no_turn t = ap capped (by_values false values.further t refl)

    pub some_turns : values.turns ≡ true
        → capped (begun_nodes values.further ns head) ≡ capped (counts.loop_nodes head at)
    some_turns t = ap capped (begun_at values.further ∙ by_values true values.further t refl)

-- ---- an item by its parts

module _ (at : Place) (x : Item) (attrs : Attributes) (p : Pos) (b : declared.Block) where
  pub turns_have : (head : LoopHead) (n : ℕ) → x ≡ shown attrs p (k.For head b)
      → n ≡ capped (counts.loop_nodes head at) → TurnsHave at x n
  turns_have head n same made =
      let P : Item → Type 0 = λ y. TurnsHave at y n in
      subst P (sym same) made
