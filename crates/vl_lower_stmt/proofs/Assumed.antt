-- What is assumed, as nodes that aren't 0.
use Rattle.std.specs.Prelude.{◌≡◌, refl, ℕ, ◌<◌, ◌==◌, Bool, true, false, ◌&&◌, ◌||◌, not, ◌↔◌}
use Rattle.std.specs.Prelude.{List, [], ◌∷◌, ◌++◌, Option, if◌then◌else◌}
use Rattle.std.proofs.Common.{ap, sym, ◌∙◌, arith, subst}
use Rattle.std.proofs.lemmas.Bool.Decides.{nat_tests}
use Rattle.fv_text.specs.declared.pos.Pos.{Pos}
use Rattle.fv_bits.specs.Bits.{bit}
use Rattle.vl_tree.specs.Attributes.{Attributes}
use Rattle.vl_tree.specs.Expr.{Expr}
use Rattle.vl_tree.specs.Stmt.{assume}
use Rattle.vl_size.specs.declared.decl.Decl.{Decl}
use Rattle.vl_size.specs.Size.{Values, is_true}
use Rattle.vl_size.specs.Size.{own as own_number}
use Rattle.vl_mean.specs.Execution.{State, exec}
use Rattle.vl_mean.specs.FlatLaw.{flat_scopes}
use Rattle.vl_mean.specs.Runs.{Each}
use Rattle.vl_mean.specs.Scopes.{operand_in}
use Rattle.wn_net.specs.Value.{Given}
use Rattle.wn_net.specs.Net.{Netlist, IsNode, IsNodeOf, AreNodes, value_at}
use Rattle.wn_net.specs.Given.{IsGiven}
use Rattle.wn_net.specs.Changes.{AddsNodes}
use Rattle.wn_net.proofs.Laws.{adds_on, given_on}
use Rattle.vl_lower_assign.specs.Slots.{IsPath, is_taken}
use Rattle.vl_lower_assign.specs.Frames.{Cells, IsFrame, StandsFor, Stand, AreCellsOf, taken_back}
use Rattle.vl_lower_assign.specs.Tracks.{AreTracks}
use Rattle.vl_lower_assign.proofs.Memories.{tracks_on}
use Rattle.vl_lower_assign.proofs.Behind.{cells_on, nodes_on, met_on, met_back, stand_on}
use Rattle.vl_lower_stmt.specs.Executes.{Executes}
use Rattle.vl_lower_stmt.proofs.Branches.{Tests, told}

-- ---- one more

each_more : {A : Type 0} (P : A → Type 0) (xs : List A) (x : A) → Each P xs → P x → Each P (xs ++ x ∷ [])
each_more P [] x h p = (p, tt)
each_more P (y ∷ ys) x h p = (h.0, each_more P ys x h.1 p)

each_first : {A : Type 0} (P : A → Type 0) (xs : List A) (x : A) → Each P (xs ++ x ∷ []) → Each P xs
each_first P [] x h = tt
each_first P (y ∷ ys) x h = (h.0, each_first P ys x h.1)

each_last : {A : Type 0} (P : A → Type 0) (xs : List A) (x : A) → Each P (xs ++ x ∷ []) → P x
each_last P [] x h = h.0
each_last P (y ∷ ys) x h = each_last P ys x h.1

nodes_more : (net : Netlist) (ids : List ℕ) (id : ℕ) → AreNodes net ids → IsNode net id → AreNodes net (ids ++ id ∷ [])
nodes_more net [] id h k = (k, tt)
nodes_more net (x ∷ xs) id h k = (h.0, nodes_more net xs id h.1 k)

-- ---- tests and numbers

some_true : (n : ℕ) → 0 < n → not (n == 0) ≡ true
some_true n h = grind (arith, nat_tests, h)

true_some : (n : ℕ) → not (n == 0) ≡ true → 0 < n
true_some n h = grind (arith, nat_tests, h)

bit_some : (b : Bool) → b ≡ true → 0 < bit b
bit_some b e = subst (λ c. 0 < bit c) (sym e) (omega arith)

some_bit : (b : Bool) → 0 < bit b → b ≡ true
some_bit true h = refl
some_bit false h = absurd (omega (arith, h))

-- the node isn't 0 exactly where nothing is assumed, or what is assumed isn't
met_is : (p : Bool) (y : ℕ) (xs : List ℕ) (M : Type 0) (z : ℕ) → z ≡ bit (not p || not (y == 0))
    → (Each (λ x. 0 < x) xs ↔ M)
    → (Each (λ x. 0 < x) (if p then xs ++ y ∷ [] else xs) → M × (0 < z))
    × (M × (0 < z) → Each (λ x. 0 < x) (if p then xs ++ y ∷ [] else xs))
met_is true y xs M z e h = (
  λ k. (
    h.0 (each_first (λ x. 0 < x) xs y k),
    subst (λ n. 0 < n) (sym e) (bit_some (not (y == 0)) (some_true y (each_last (λ x. 0 < x) xs y k))),
  ),
  λ k.
      each_more (λ x. 0 < x) xs y (h.1 k.0) (true_some y (some_bit (not (y == 0)) (subst (λ n. 0 < n) e k.1))),
)
met_is false y xs M z e h =
    (λ k. (h.0 k, subst (λ n. 0 < n) (sym e) (omega arith)), λ k. h.1 k.0)

module _ (ds : List Decl) where
  pub assumed : (old mid new : Netlist) (f h : Cells) (path : Option ℕ) (test met : ℕ) (attrs : Attributes) (p : Pos)
      (e : Expr) → IsFrame old ds f → IsPath old path → Tests ds old mid f e test → AddsNodes mid new
      → IsNodeOf new 1 met
      → ((g : Given) → IsGiven mid g
      → value_at new g met ≡ bit (not (is_taken mid g path) || (value_at mid g test == 1)))
      → h.now ≡ f.now → h.next ≡ f.next → h.log ≡ f.log → h.tracks ≡ f.tracks → h.assumed ≡ f.assumed ++ met ∷ []
      → Executes ds old new f h path (assume attrs p e)
  assumed old mid new f h path test met attrs p e own way tests adds there is now next log tracks more =
      let all = adds_on old mid new tests.adds adds in
      let N : List ℕ → Type 0 = λ cells. AreCellsOf new ds cells in
      let A : List ℕ → Type 0 = λ ids. AreNodes new ids in
      record {
        adds = all;
        frame = record {
          now = subst N (sym now) (cells_on old new ds f.now all own.now);
          next = subst N (sym next) (cells_on old new ds f.next all own.next);
          assumed =
              subst A (sym more)
              (nodes_more new f.assumed met (nodes_on old new f.assumed all own.assumed) there.0);
          tracks =
              subst (AreTracks new h.next) (sym tracks)
              (subst (λ (cells : List ℕ). AreTracks new cells f.tracks) (sym next)
              (tracks_on old new f.next f.tracks all (λ i less. (own.next.node i less).0) own.tracks));
        };
        back = λ i. taken_back (log i) (now i);
        comes = λ g t w given has.
            let q = is_taken old g path in
            let x = operand_in (flat_scopes ds) t.now e in
            let C : List ℕ → Type 0 = λ cells. Stand new g ds cells t.now in
            let D : List ℕ → Type 0 = λ cells. Stand new g ds cells w in
            let P : Values → Type 0 = λ v. Stand new g ds h.now v in
            let Q : Values → Type 0 = λ v. Stand new g ds h.next v in
            let R : List ℕ → Type 0 = λ xs. Each (λ x. 0 < x) xs ↔ Each (λ id. 0 < value_at new g id) h.assumed in
            let given_mid = given_on old mid g tests.adds given in
            let value = is g given_mid ∙ (λ i. bit (not_or (is_taken mid g path) (value_at mid g test == 1) i)) ∙ (λ
            i. bit (not (turned g t w given has i))) ∙ ap bit (or_back q (is_true x)) in
            let both = met_is q (own_number x) t.seen (Each (λ id. 0 < value_at new g id) f.assumed) (value_at new g
            met) value (
              λ k. met_on old new g f.assumed all own.assumed (has.assumed.0 k),
              λ k. has.assumed.1 (met_back old new g f.assumed all own.assumed k),
            ) in
            record {
              now =
                  subst P (now_same q t e) (subst C (sym now) (stand_on old new g ds f.now t.now all own.now has.now));
              next =
                  subst Q (same q w) (subst D (sym next) (stand_on old new g ds f.next w all own.next has.next));
              assumed =
                  subst R (seen_same q t e) (
                    λ k.
                        let r = both.0 k in
                        subst (λ ids. Each (λ id. 0 < value_at new g id) ids) (sym more)
                        (each_more (λ id. 0 < value_at new g id) f.assumed met r.0 r.1),
                    λ k.
                        let m = subst (λ ids. Each (λ id. 0 < value_at new g id) ids) more k in
                        both.1 (
                          each_first (λ id. 0 < value_at new g id) f.assumed met m,
                          each_last (λ id. 0 < value_at new g id) f.assumed met m,
                        ),
                  );
            };
      }
    where
      not_or : (a b : Bool) → (not a || b) ≡ not (a && not b)
      not_or true true = refl
      not_or true false = refl
      not_or false b = refl

      or_back : (a b : Bool) → not (a && not b) ≡ (not a || b)
      or_back a b = sym (not_or a b)

      turned : (g : Given) (t : State) (w : Values) → IsGiven old g → StandsFor old g ds f t w
          → (is_taken mid g path && not (value_at mid g test == 1))
          ≡ (is_taken old g path && not (is_true (operand_in (flat_scopes ds) t.now e)))
      turned g t w given has = told ds old mid f path e test way tests g t w given has not

      same : {A : Type 0} (b : Bool) (t : A) → t ≡ (if b then t else t)
      same true t = refl
      same false t = refl

      now_same : (b : Bool) (t : State) (e : Expr)
          → t.now ≡ (if b then exec (flat_scopes ds) (assume attrs p e) t else t).now
      now_same true t e = refl
      now_same false t e = refl

      seen_same : (b : Bool) (t : State) (e : Expr)
          → (if b then t.seen ++ own_number (operand_in (flat_scopes ds) t.now e) ∷ [] else t.seen)
          ≡ (if b then exec (flat_scopes ds) (assume attrs p e) t else t).seen
      seen_same true t e = refl
      seen_same false t e = refl
