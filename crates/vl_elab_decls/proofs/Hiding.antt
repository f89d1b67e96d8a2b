-- What hides the constants around a block.
use Rattle.std.specs.Prelude.{◌≡◌, refl, ℕ, List, [], ◌∷◌, ◌++◌, map, Bool, true, false, ◌&&◌, ◌||◌, not, bytes_eq}
use Rattle.std.specs.Prelude.{Option, None, if◌then◌else◌}
use Rattle.std.proofs.Common.{ap, sym, ◌∙◌}
use Rattle.std.proofs.lemmas.Slice.Eq.{bytes_eq-Decides}
use Rattle.vl_tree.specs.declared.declaration.DeclaredName.{DeclaredName}
use Rattle.vl_tree.specs.declared.declaration.Shape.{Shape}
use Rattle.vl_tree.specs.Item.{
  Item,
  Items,
  declaration,
  integer,
  genvar,
  parameter,
  assign,
  always,
  initial,
  instance,
  generate,
  for_loop,
  if_only,
  if_else,
  no_items,
  more_items,
}
use Rattle.vl_size.specs.declared.decl.Class.{Class}
use Rattle.vl_size.specs.declared.decl.Class.TheVariants as class
use Rattle.vl_size.specs.declared.decl.Decl.{Decl}
use Rattle.vl_size.specs.Table.{is_declared}
use Rattle.vl_mean.specs.Cells.{contains_name}
use Rattle.vl_mean.specs.Declarations.{declared, declared_by, declared_names, declared_integers}
use Rattle.vl_mean.specs.Declarations.{class_of_attributes, class_of_kind, joined_attributes}
use Rattle.vl_mean.specs.Scopes.{Scope}
use Rattle.vl_elab_spec.specs.Meanings.{Meaning, undeclared, constant, loop_variable, object, faulty, shapeless, later}
use Rattle.vl_elab_spec.specs.Meanings.{Names, is_undeclared, meaning_of, value_of}
use Rattle.vl_elab_scope.specs.Seen.{AreNamed, with_name}
use Rattle.vl_elab_params.proofs.Listed.{inner_or, named_only, meaning_with, named_with}
use Rattle.vl_elab_decls.specs.Hidden.{with_hidden, object_names, with_hidden_items}

-- ---- what is declared, by its names

declared_append : (ds es : List Decl) (text : List ℕ)
    → is_declared (ds ++ es) text ≡ (is_declared ds text || is_declared es text)
declared_append [] es text = refl
declared_append (d ∷ ds) es text = by (bytes_eq text d.name) (declared_append ds es text)
  where
    by : (b : Bool) → is_declared (ds ++ es) text ≡ (is_declared ds text || is_declared es text)
        → (b || is_declared (ds ++ es) text) ≡ ((b || is_declared ds text) || is_declared es text)
    by true h = refl
    by false h = h

module _ (values : Names) (text : List ℕ) where
  -- the name is one of these, and no constant
  abbrev hides : Bool → Bool
  hides there = there && is_undeclared (meaning_of values text)

  -- so it is kept
  pub record Hides (l : Names) (there : Bool) : Type 0 where
    pub named : AreNamed l
    pub meaning : meaning_of l text ≡ (if hides there then faulty else undeclared)

  pub none_hidden : Hides [] false
  none_hidden = record { named = tt; meaning = refl }

  one_hidden : (l : Names) (there : Bool) (x : List ℕ) → Hides l there
      → Hides (if is_undeclared (meaning_of values x) then with_name l x faulty else l) (there || bytes_eq text x)
  one_hidden l there x h =
      by (is_undeclared (meaning_of values x)) refl (bytes_eq text x) refl
    where
      named : (b : Bool) → AreNamed (if b then with_name l x faulty else l)
      named true = named_with l x faulty h.named tt
      named false = h.named

      or_false : (a : Bool) → a ≡ (a || false)
      or_false true = refl
      or_false false = refl

      or_true : (a : Bool) → (a || true) ≡ true
      or_true true = refl
      or_true false = refl

      same_name : bytes_eq text x ≡ true → text ≡ x
      same_name e = (bytes_eq-Decides text x).0 e

      join : (a : Bool) → inner_or (if a then faulty else undeclared) faulty ≡ faulty
      join true = refl
      join false = refl

      alone : (a : Bool) → inner_or (if a then faulty else undeclared) undeclared
          ≡ (if a then faulty else undeclared)
      alone true = refl
      alone false = refl

      none : (there : Bool) → (if (there && false) then faulty else undeclared) ≡ undeclared
      none true = refl
      none false = refl

      by : (u : Bool) → is_undeclared (meaning_of values x) ≡ u → (b : Bool) → bytes_eq text x ≡ b
          → Hides (if u then with_name l x faulty else l) (there || b)
      by true k true e = record {
        named = named true;
        meaning =
            meaning_with l x faulty h.named text
            ∙ (λ i. inner_or (h.meaning i) (if e i then faulty else undeclared)) ∙ join (hides there)
            ∙ (λ i. if sym (or_true there) i && sym (ap (λ t. is_undeclared (meaning_of values t)) (same_name e) ∙ k) i
            then faulty else undeclared);
      }
      by true k false e = record {
        named = named true;
        meaning =
            meaning_with l x faulty h.named text
            ∙ (λ i. inner_or (h.meaning i) (if e i then faulty else undeclared)) ∙ alone (hides there)
            ∙ ap (λ t. if hides t then faulty else undeclared) (or_false there);
      }
      by false k true e =
          let gone : is_undeclared (meaning_of values text) ≡ false =
          ap (λ t. is_undeclared (meaning_of values t)) (same_name e) ∙ k in record {
            named = named false;
            meaning =
                h.meaning ∙ (λ i. if there && gone i then faulty else undeclared) ∙ none there
                ∙ sym (none (there || true))
                ∙ (λ i. if (there || true) && sym gone i then faulty else undeclared);
          }
      by false k false e = record {
        named = named false;
        meaning = h.meaning ∙ ap (λ t. if hides t then faulty else undeclared) (or_false there);
      }

  or_assoc : (a b c : Bool) → ((a || b) || c) ≡ (a || (b || c))
  or_assoc true b c = refl
  or_assoc false b c = refl

  or_none : (a : Bool) → a ≡ (a || false)
  or_none true = refl
  or_none false = refl

  to : (l : Names) (a b : Bool) → a ≡ b → Hides l a → Hides l b
  to l a b e h = record { named = h.named; meaning = h.meaning ∙ ap (λ t. if hides t then faulty else undeclared) e }

  names_hidden : (xs : List (List ℕ)) (l : Names) (there : Bool) → Hides l there
      → Hides (with_hidden values l xs) (there || contains_name xs text)
  names_hidden [] l there h = to l there _ (or_none there) h
  names_hidden (x ∷ xs) l there h =
      to _ _ _ (or_assoc there (bytes_eq text x) (contains_name xs text))
      (names_hidden xs _ (there || bytes_eq text x) (one_hidden l there x h))

module _ (ss : List Scope) (text : List ℕ) where
  names_declared : (c : Class) (shape : Shape) (xs : List DeclaredName)
      → is_declared (declared_names ss c shape xs) text ≡ contains_name (map (λ x. x.name) xs) text
  names_declared c shape [] = refl
  names_declared c shape (x ∷ xs) = ap (λ b. bytes_eq text x.name || b) (names_declared c shape xs)

  integers_declared : (c : Class) (xs : List DeclaredName)
      → is_declared (declared_integers ss c xs) text ≡ contains_name (map (λ x. x.name) xs) text
  integers_declared c [] = refl
  integers_declared c (x ∷ xs) = ap (λ b. bytes_eq text x.name || b) (integers_declared c xs)

  item_declared : (x : Item) → is_declared (declared_by ss x) text ≡ contains_name (object_names x) text
  item_declared (declaration attrs p d) =
      names_declared (class_of_attributes (class_of_kind d.net) (joined_attributes attrs)) d.shape d.names
  item_declared (integer attrs p xs) =
      integers_declared (class_of_attributes class.Variable (joined_attributes attrs)) xs
  item_declared (genvar attrs p xs) = refl
  item_declared (parameter attrs p kind xs) = refl
  item_declared (assign attrs p xs) = refl
  item_declared (always attrs p event x) = refl
  item_declared (initial attrs p x) = refl
  item_declared (instance attrs p x) = refl
  item_declared (generate attrs p mark) = refl
  item_declared (for_loop attrs p head b) = refl
  item_declared (if_only attrs p x b) = refl
  item_declared (if_else attrs p x b b') = refl

module _ (values : Names) (ss : List Scope) (text : List ℕ) where
  items_hidden : (xs : Items) (l : Names) (there : Bool) → Hides values text l there
      → Hides values text (with_hidden_items values l xs) (there || is_declared (declared ss xs) text)
  items_hidden no_items l there h = to values text l there _ (or_none values text there) h
  items_hidden (more_items x xs) l there h =
      let here = is_declared (declared_by ss x) text in
      to values text _ _ _ (or_assoc values text there here (is_declared (declared ss xs) text)
      ∙ ap (λ b. there || b) (sym (declared_append (declared_by ss x) (declared ss xs) text)))
      (items_hidden xs _ (there || here) (to values text _ _ _ (ap (λ b. there || b) (sym (item_declared ss text x)))
      (names_hidden values text (object_names x) l there h)))

  -- all of them
  pub all_hidden : (xs : Items) → Hides values text (with_hidden_items values [] xs) (is_declared (declared ss xs) text)
  all_hidden xs = items_hidden xs [] false (none_hidden values text)
