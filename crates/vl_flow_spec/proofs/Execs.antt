-- What a statement does depends on the bits that it needs alone.
use Rattle.std.specs.Prelude.{◌≡◌, refl, ℕ, ◌≤◌, max, List, [], ◌∷◌, ◌++◌, length, Bool, true, false, ◌&&◌, ◌||◌}
use Rattle.std.specs.Prelude.{All, not, Some, IsSome, if◌then◌else◌}
use Rattle.std.proofs.Common.{ap, sym, ◌∙◌, subst, true≢false}
use Rattle.vl_tree.specs.declared.stmt.AssignKind.TheVariants as a
use Rattle.vl_tree.specs.Expr.{Expr}
use Rattle.vl_tree.specs.Lval.{Lval}
use Rattle.vl_tree.specs.Stmt.{
  Stmt,
  Stmts,
  Arms,
  begin,
  if_only,
  if_else,
  case,
  assign,
  assume,
  empty,
  no_stmts,
  more_stmts,
  no_arms,
  labels,
  default,
}
use Rattle.vl_size.specs.declared.context.Context.{Context}
use Rattle.vl_size.specs.declared.decl.Class.{Class}
use Rattle.vl_size.specs.declared.decl.Class.TheVariants as class
use Rattle.vl_size.specs.declared.decl.Decl.{Decl}
use Rattle.vl_size.specs.Size.{Values, Operand, own, is_true, size}
use Rattle.vl_size.specs.Table.{declared_as}
use Rattle.vl_mean.specs.Execution.{State, assigned, arms_size, arms_sign, matches, exec, exec_all, pick, otherwise}
use Rattle.vl_mean.specs.FlatLaw.{flat_scopes, IsReadIn, IsBlock, AreBlocks, AreArms, IsTarget, case_context}
use Rattle.vl_mean.specs.FlatLaw.{is_variable}
use Rattle.vl_mean.specs.FlatLaw.{is_net}
use Rattle.vl_mean.specs.Scopes.{operand_in, is_clock_class}
use Rattle.vl_mean.specs.Targets.{Write, put_all, spots, has_spot}
use Rattle.vl_flow_spec.specs.Reads.{Bits, Covers, IsCellOf, reads}
use Rattle.vl_flow_spec.specs.Paths.{is_blocking, target_reads, sets, labels_read, has_default, sure, all_sure}
use Rattle.vl_flow_spec.specs.Paths.{arms_sure}
use Rattle.vl_flow_spec.specs.Paths.{needs, all_need, arms_need}
use Rattle.vl_flow_spec.specs.Settle.{IsBitOf}
use Rattle.vl_flow_spec.proofs.Alike.{Alike, ◌∪◌, fewer, operand_same, assigned_alike, matches_alike}
use Rattle.vl_flow_spec.proofs.Bools.{or_left, or_right, or_either, or_moved, or_sure, and_both, and_left}
use Rattle.vl_flow_spec.proofs.Bools.{and_right}
use Rattle.vl_flow_spec.proofs.Cells.{HaveOwnCells}
use Rattle.vl_flow_spec.proofs.Targets.{Marks, marks}
use Rattle.vl_flow_spec.proofs.Writes.{writes_to, AreSmall, written_to, written_small, puts_bit, puts_fit}

-- both states have these bits in common, and what waits and what was assumed
pub record SameState (ds : List Decl) (K : Bits) (t u : State) : Type 0 where
  pub now : Alike ds K t.now u.now
  pub pending : t.pending ≡ u.pending
  pub seen : t.seen ≡ u.seen

pub same_less : (ds : List Decl) (K J : Bits) (t u : State) → Covers K J → SameState ds K t u → SameState ds J t u
same_less ds K J t u c h = record { now = fewer ds K J t.now u.now c h.now; pending = h.pending; seen = h.seen }

same_if : (ds : List Decl) (K : Bits) (b c : Bool) (t u x y : State) → b ≡ c → SameState ds K t u → SameState ds K x y
    → SameState ds K (if b then t else x) (if c then u else y)
same_if ds K b c t u x y e h k = subst (λ z. SameState ds K (if b then t else x) (if z then u else y)) e (by b)
  where
    by : (z : Bool) → SameState ds K (if z then t else x) (if z then u else y)
    by true = h
    by false = k

no_more : (ds : List Decl) (K J : Bits) (t u : State) → ((n : List ℕ) (k : ℕ) → J n k ≡ false) → SameState ds K t u
    → SameState ds (K ∪ J) t u
no_more ds K J t u none h =
    same_less ds K (K ∪ J) t u
    (λ n k e. or_either (K n k) (J n k) (K n k) (λ x. x) (λ x. absurd (true≢false (sym x ∙ none n k))) e) h

under : (K J H : Bits) → Covers H J → Covers (K ∪ H) (K ∪ J)
under K J H c n k e =
    or_either (K n k) (J n k) (K n k || H n k) (λ x. or_left (K n k) (H n k) x)
    (λ x. or_right (K n k) (H n k) (c n k x)) e

-- a variable isn't the clock, and no net is
variable_class : (d : Decl) (c : Class) → d.class ≡ c → is_variable d ≡ true → is_clock_class c ≡ false
variable_class d class.Clock e h = absurd (true≢false (sym h ∙ ap is_var e))
  where
    is_var : Class → Bool
    is_var c = is_variable (record d { class = c })
variable_class d class.Variable e h = refl
variable_class d class.Net e h = refl
variable_class d class.Input e h = refl
variable_class d class.Reset e h = refl
variable_class d class.EachCycle e h = refl
variable_class d class.Once e h = refl

pub variable_counted : (d : Decl) → is_variable d ≡ true → is_clock_class d.class ≡ false
variable_counted d h = variable_class d d.class refl h

net_class : (d : Decl) (c : Class) → d.class ≡ c → is_net d ≡ true → is_clock_class c ≡ false
net_class d class.Clock e h = absurd (true≢false (sym h ∙ ap is_n e))
  where
    is_n : Class → Bool
    is_n c = is_net (record d { class = c })
net_class d class.Variable e h = refl
net_class d class.Net e h = refl
net_class d class.Input e h = refl
net_class d class.Reset e h = refl
net_class d class.EachCycle e h = refl
net_class d class.Once e h = refl

pub net_counted : (d : Decl) → is_net d ≡ true → is_clock_class d.class ≡ false
net_counted d h = net_class d d.class refl h

-- the writes of an assignment
pub assigned_small : (ds : List Decl) (l : Lval) (e : Expr) (v : Values)
    → AreSmall (assigned (flat_scopes ds) l (flat_scopes ds) e v)
assigned_small ds l e v =
    let x = operand_in (flat_scopes ds) v e in
    written_small (spots (flat_scopes ds) v l) (x.at (max (length (spots (flat_scopes ds) v l)) x.size) x.sign)

pub assigned_to : (ds : List Decl) (l : Lval) (e : Expr) (v : Values) (n : List ℕ) (k : ℕ)
    → writes_to (assigned (flat_scopes ds) l (flat_scopes ds) e v) n k
    ≡ has_spot n k (spots (flat_scopes ds) v l)
assigned_to ds l e v n k =
    let x = operand_in (flat_scopes ds) v e in
    written_to (spots (flat_scopes ds) v l) (x.at (max (length (spots (flat_scopes ds) v l)) x.size) x.sign) n k

module _ (ds : List Decl) (wide : (d : Decl) → declared_as ds d.name ≡ Some d → 1 ≤ d.width) (cells : HaveOwnCells ds) where
  -- after an assignment the maps have what is set in common too
  pub puts_alike : (may : Decl → Bool) (fix : Bool) (l : Lval) (e : Expr) (K : Bits) (u v : Values) → Marks ds l
      → IsTarget ds may fix l → IsSome (size ds e) → Alike ds K u v → Covers K (target_reads ds l) → Covers K (reads ds e)
      → Alike ds (K ∪ sets ds l) (put_all (assigned (flat_scopes ds) l (flat_scopes ds) e u) u)
      (put_all (assigned (flat_scopes ds) l (flat_scopes ds) e v) v)
  puts_alike may fix l e K u v m is sized h c f =
      subst (λ zs. Alike ds (K ∪ sets ds l) (put_all ws u) (put_all zs v))
      (assigned_alike ds wide u v K h may fix l e is sized c f) (record {
        bits = λ d n k of below t.
            puts_bit ws u v n k small (λ none.
            h.bits d n k of below (unless (K n k) (sets ds l n k) t (λ set.
            sym none ∙ assigned_to ds l e u n k ∙ m.reached u n k set)));
        left = puts_fit ds cells ws u small there h.left;
        right = puts_fit ds cells ws v small there h.right;
        counted = λ d n k of t. by d n k of (K n k) refl t;
      })
    where
      ws : List Write
      ws = assigned (flat_scopes ds) l (flat_scopes ds) e u

      small : AreSmall ws
      small = assigned_small ds l e u

      there : (n : List ℕ) (k : ℕ) → writes_to ws n k ≡ true → IsBitOf ds n k
      there n k t = m.there u n k (sym (assigned_to ds l e u n k) ∙ t)

      unless : (a b : Bool) → (a || b) ≡ true → (b ≡ true → false ≡ true) → a ≡ true
      unless true b t f = refl
      unless false b t f = absurd (true≢false (sym (f t)))

      by : (d : Decl) (n : List ℕ) (k : ℕ) → IsCellOf ds d n → (b : Bool) → K n k ≡ b → (b || sets ds l n k) ≡ true
          → is_clock_class d.class ≡ false
      by d n k of true e t = h.counted d n k of e
      by d n k of false e t =
          let is_bit = m.there u n k (m.reached u n k t) in
          ap (λ x. is_clock_class x.class) (cells d is_bit.decl n of is_bit.of) ∙ is_bit.counted

  -- ---- statements

  abbrev SameAfter : Bits → Bits → (State → State) → Type 0
  SameAfter needed set f =
      (K : Bits) (t u : State) → SameState ds K t u → Covers K needed → SameState ds (K ∪ set) (f t) (f u)

  abbrev sures : Stmt → Bits
  sures s = sure ds is_blocking s

  true_same : (K : Bits) (t u : State) → SameState ds K t u → (e : Expr) → Covers K (reads ds e) → IsSome (size ds e)
      → is_true (operand_in (flat_scopes ds) t.now e) ≡ is_true (operand_in (flat_scopes ds) u.now e)
  true_same K t u h e c sized = λ i. is_true (operand_same ds wide t.now u.now K h.now e c sized i)

  mutual
    pub exec_same : (s : Stmt) → IsBlock ds s → SameAfter (needs ds s) (sures s) (exec (flat_scopes ds) s)
    exec_same (begin attrs p label xs) is K t u h c = all_same xs is K t u h c
    exec_same (if_only attrs p e x) is K t u h c =
        same_if ds (K ∪ (λ n k. false)) (is_true (operand_in (flat_scopes ds) t.now e))
        (is_true (operand_in (flat_scopes ds) u.now e)) (exec (flat_scopes ds) x t) (exec (flat_scopes ds) x u) t u
        (true_same K t u h e (λ n k r. c n k (or_left (reads ds e n k) (needs ds x n k) r)) is.0.sized)
        (same_less ds (K ∪ sures x) (K ∪ (λ n k. false)) (exec (flat_scopes ds) x t) (exec (flat_scopes ds) x u)
        (under K (λ n k. false) (sures x) (λ n k r. absurd (true≢false (sym r))))
        (exec_same x is.1 K t u h (λ n k r. c n k (or_right (reads ds e n k) (needs ds x n k) r))))
        (no_more ds K (λ n k. false) t u (λ n k. refl) h)
    exec_same (if_else attrs p e x y) is K t u h c =
        let J : Bits = λ n k. sures x n k && sures y n k in
        same_if ds (K ∪ J) (is_true (operand_in (flat_scopes ds) t.now e))
        (is_true (operand_in (flat_scopes ds) u.now e)) (exec (flat_scopes ds) x t) (exec (flat_scopes ds) x u)
        (exec (flat_scopes ds) y t) (exec (flat_scopes ds) y u)
        (true_same K t u h e (λ n k r. c n k (or_left (reads ds e n k) (needs ds x n k || needs ds y n k) r)) is.0.sized)
        (same_less ds (K ∪ sures x) (K ∪ J) (exec (flat_scopes ds) x t) (exec (flat_scopes ds) x u)
        (under K J (sures x) (λ n k r. and_left (sures x n k) (sures y n k) r))
        (exec_same x is.1.0 K t u h (λ n k r.
        c n k (or_right (reads ds e n k) (needs ds x n k || needs ds y n k) (or_left (needs ds x n k) (needs ds y n k) r)))))
        (same_less ds (K ∪ sures y) (K ∪ J) (exec (flat_scopes ds) y t) (exec (flat_scopes ds) y u)
        (under K J (sures y) (λ n k r. and_right (sures x n k) (sures y n k) r))
        (exec_same y is.1.1 K t u h (λ n k r.
        c n k (or_right (reads ds e n k) (needs ds x n k || needs ds y n k)
        (or_right (needs ds x n k) (needs ds y n k) r)))))
    exec_same (case attrs p kind e arms) is K t u h c =
        let in_e : Covers K (reads ds e) = λ n k r. c n k (or_left (reads ds e n k) (arms_need ds arms n k) r) in
        let in_arms : Covers K (arms_need ds arms) = λ n k r. c n k (or_right (reads ds e n k) (arms_need ds arms n k) r) in
        let J : Bits = λ n k. has_default arms && arms_sure ds is_blocking arms n k in
        let x = operand_in (flat_scopes ds) t.now e in
        let y = operand_in (flat_scopes ds) u.now e in
        let same = operand_same ds wide t.now u.now K h.now e in_e is.0.sized in
        let test : State → Operand → List Expr → Bool = λ s x es. matches (flat_scopes ds) kind s.now
        (max x.size (arms_size (flat_scopes ds) arms)) (x.sign && arms_sign (flat_scopes ds) arms)
        (x.at (max x.size (arms_size (flat_scopes ds) arms)) (x.sign && arms_sign (flat_scopes ds) arms)) es in
        picked_same (case_context ds e arms) arms is.1.1 K J t u (test t x) (test u y)
        (λ es are l. matches_alike ds wide t.now u.now K h.now kind (max x.size (arms_size (flat_scopes ds) arms))
        (x.sign && arms_sign (flat_scopes ds) arms)
        (x.at (max x.size (arms_size (flat_scopes ds) arms)) (x.sign && arms_sign (flat_scopes ds) arms))
        (case_context ds e arms) es are l ∙ ap (λ z. test u z es) same)
        (λ z. otherwise (flat_scopes ds) arms z) h in_arms
        (λ n k r. and_right (has_default arms) (arms_sure ds is_blocking arms n k) r)
        (otherwise_same (case_context ds e arms) arms is.1.1 K J t u h in_arms (λ n k r. r))
    exec_same (assign attrs p l a.Blocking e) is K t u h c = record {
      now =
          puts_alike is_variable false l e K t.now u.now (marks ds wide is_variable variable_counted false l is.0.0) is.0.0
          is.1.sized h.now (λ n k r. c n k (or_left (target_reads ds l n k) (reads ds e n k) r))
          (λ n k r. c n k (or_right (target_reads ds l n k) (reads ds e n k) r));
      pending = h.pending;
      seen = h.seen;
    }
    exec_same (assign attrs p l a.Nonblocking e) is K t u h c =
        no_more ds K (λ n k. false)
        (record t { pending = t.pending ++ assigned (flat_scopes ds) l (flat_scopes ds) e t.now })
        (record u { pending = u.pending ++ assigned (flat_scopes ds) l (flat_scopes ds) e u.now }) (λ n k. refl) (record {
          now = h.now;
          pending = λ i.
              h.pending i
              ++ assigned_alike ds wide t.now u.now K h.now is_variable false l e is.0.0 is.1.sized
              (λ n k r. c n k (or_left (target_reads ds l n k) (reads ds e n k) r))
              (λ n k r. c n k (or_right (target_reads ds l n k) (reads ds e n k) r)) i;
          seen = h.seen;
        })
    exec_same (assume attrs p e) is K t u h c =
        no_more ds K (λ n k. false) (record t { seen = t.seen ++ own (operand_in (flat_scopes ds) t.now e) ∷ [] })
        (record u { seen = u.seen ++ own (operand_in (flat_scopes ds) u.now e) ∷ [] }) (λ n k. refl) (record {
          now = h.now;
          pending = h.pending;
          seen = λ i. h.seen i ++ own (operand_same ds wide t.now u.now K h.now e c is.sized i) ∷ [];
        })
    exec_same (empty attrs p) is K t u h c = no_more ds K (λ n k. false) t u (λ n k. refl) h

    all_same : (xs : Stmts) → AreBlocks ds xs
        → SameAfter (all_need ds xs) (all_sure ds is_blocking xs) (exec_all (flat_scopes ds) xs)
    all_same no_stmts is K t u h c = no_more ds K (λ n k. false) t u (λ n k. refl) h
    all_same (more_stmts x xs) is K t u h c =
        let others : Bits = all_sure ds is_blocking xs in
        let after = exec_same x is.0 K t u h
        (λ n k r. c n k (or_left (needs ds x n k) (not (sures x n k) && all_need ds xs n k) r)) in
        same_less ds ((K ∪ sures x) ∪ others) (K ∪ (λ n k. sures x n k || others n k))
        (exec_all (flat_scopes ds) xs (exec (flat_scopes ds) x t)) (exec_all (flat_scopes ds) xs (exec (flat_scopes ds) x u))
        (λ n k e. or_moved (K n k) (sures x n k) (others n k) e)
        (all_same xs is.1 (K ∪ sures x) (exec (flat_scopes ds) x t) (exec (flat_scopes ds) x u) after (λ n k r.
        or_sure (K n k) (sures x n k) (all_need ds xs n k) r (λ q.
        c n k (or_right (needs ds x n k) (not (sures x n k) && all_need ds xs n k) q))))

    picked_same : (context : Context) (arms : Arms) → AreArms ds context arms → (K J : Bits) (t u : State)
        (f g : List Expr → Bool)
        → ((es : List Expr) → All (IsReadIn ds context) es → Covers K (labels_read ds es) → f es ≡ g es)
        → (other : State → State) → SameState ds K t u → Covers K (arms_need ds arms)
        → Covers (arms_sure ds is_blocking arms) J → SameState ds (K ∪ J) (other t) (other u)
        → SameState ds (K ∪ J) (pick (flat_scopes ds) arms f other t) (pick (flat_scopes ds) arms g other u)
    picked_same context no_arms is K J t u f g e other h c s last = last
    picked_same context (labels p es x arms) is K J t u f g e other h c s last =
        same_if ds (K ∪ J) (f es) (g es) (exec (flat_scopes ds) x t) (exec (flat_scopes ds) x u)
        (pick (flat_scopes ds) arms f other t) (pick (flat_scopes ds) arms g other u)
        (e es is.0 (λ n k r. c n k (or_left (labels_read ds es n k) (needs ds x n k || arms_need ds arms n k) r)))
        (same_less ds (K ∪ sures x) (K ∪ J) (exec (flat_scopes ds) x t) (exec (flat_scopes ds) x u)
        (under K J (sures x) (λ n k r. and_left (sures x n k) (arms_sure ds is_blocking arms n k) (s n k r)))
        (exec_same x is.1.0 K t u h (λ n k r.
        c n k (or_right (labels_read ds es n k) (needs ds x n k || arms_need ds arms n k)
        (or_left (needs ds x n k) (arms_need ds arms n k) r)))))
        (picked_same context arms is.1.1 K J t u f g e other h
        (λ n k r. c n k (or_right (labels_read ds es n k) (needs ds x n k || arms_need ds arms n k)
        (or_right (needs ds x n k) (arms_need ds arms n k) r)))
        (λ n k r. and_right (sures x n k) (arms_sure ds is_blocking arms n k) (s n k r)) last)
    picked_same context (default p colon x arms) is K J t u f g e other h c s last =
        picked_same context arms is.1 K J t u f g e other h
        (λ n k r. c n k (or_right (needs ds x n k) (arms_need ds arms n k) r))
        (λ n k r. and_right (sures x n k) (arms_sure ds is_blocking arms n k) (s n k r)) last

    otherwise_same : (context : Context) (arms : Arms) → AreArms ds context arms → (K J : Bits) (t u : State)
        → SameState ds K t u → Covers K (arms_need ds arms)
        → Covers (λ n k. has_default arms && arms_sure ds is_blocking arms n k) J
        → SameState ds (K ∪ J) (otherwise (flat_scopes ds) arms t) (otherwise (flat_scopes ds) arms u)
    otherwise_same context no_arms is K J t u h c s =
        same_less ds K (K ∪ J) t u
        (λ n k r. or_either (K n k) (J n k) (K n k) (λ x. x) (λ x. absurd (true≢false (sym (s n k x)))) r) h
    otherwise_same context (labels p es x arms) is K J t u h c s =
        otherwise_same context arms is.1.1 K J t u h
        (λ n k r. c n k (or_right (labels_read ds es n k) (needs ds x n k || arms_need ds arms n k)
        (or_right (needs ds x n k) (arms_need ds arms n k) r)))
        (λ n k r. and_both (has_default arms) (arms_sure ds is_blocking arms n k)
        (and_left (has_default arms) (sures x n k && arms_sure ds is_blocking arms n k) (s n k r))
        (and_right (sures x n k) (arms_sure ds is_blocking arms n k)
        (and_right (has_default arms) (sures x n k && arms_sure ds is_blocking arms n k) (s n k r))))
    otherwise_same context (default p colon x arms) is K J t u h c s =
        same_less ds (K ∪ sures x) (K ∪ J) (exec (flat_scopes ds) x t) (exec (flat_scopes ds) x u)
        (under K J (sures x) (λ n k r. and_left (sures x n k) (arms_sure ds is_blocking arms n k) (s n k r)))
        (exec_same x is.0 K t u h (λ n k r. c n k (or_left (needs ds x n k) (arms_need ds arms n k) r)))
