-- What the watches keep, from one state to the next.
use Rattle.std.proofs.Common.{◌≡◌, ℕ, zero, suc, ◌+◌, ◌^◌, ◌<◌, ◌≤◌, false, eqb, List, [], ◌∷◌, ℤ, pos, negsuc}
use Rattle.std.proofs.Common.{neg_ℤ, length, get_or}
use Rattle.std.proofs.Common.{Option, Some, None, refl, ap, sym, subst, ◌∙◌, arith}
use Rattle.std.proofs.lemmas.Bool.{false≢true, false_from_ne_true}
use Rattle.std.specs.Prelude.{unsigned_abs}
use Rattle.lrat_check.specs.Codes.{code_of, lit_of, codes_of, flip}
use Rattle.lrat_check.specs.Sets.{is_false, IsLit, AreLits}
use Rattle.lrat_check.specs.Store.{Clauses, Coded, coded, next, held_of, with_code}
use Rattle.lrat_check.proofs.Codes.{lit_code, flip_code}
use Rattle.sat_trail.proofs.Codes.{same_at}
use Rattle.sat_trail.specs.Trail.{Entries, lits, oldest, true_codes, IsNext}
use Rattle.sat_propagate.specs.declared.watch.Watch.{Watch}
use Rattle.std.specs.Prelude.{MatchOption}
use Rattle.sat_propagate.specs.declared.visit.Stop.{Stop}
use Rattle.sat_propagate.specs.declared.watch_scan.Scan.{Scan}
use Rattle.sat_propagate.specs.declared.watch_scan.Scan.TheVariants as scan
use Rattle.sat_propagate.specs.Watching.{is_false_code, lists_of, with_watch, taken, joined, Watched, AreFit, Ready}
use Rattle.sat_propagate.specs.Watching.{Going, Stops}
use Rattle.sat_propagate.specs.Watches.{State, Keeps, Sees, CalmWhere, Finds, SameLits, Leads, OpenBelow, lit_at}
use Rattle.sat_propagate.specs.Watches.{scan_at}
use Rattle.sat_propagate.proofs.ListSteps.{put_none}
use Rattle.sat_propagate.proofs.Quiets.{puts_back}
use Rattle.sat_propagate.proofs.Readies.{ready_take, ready_back}
use Rattle.sat_propagate.proofs.Steps.{among_self, among_oldest, among_fewer, begins, below_on, all_calm}
use Rattle.sat_propagate.proofs.Joins.{below_more, watched_more, fit_more, ready_more, code_at, lit_there, has_place}
use Rattle.sat_propagate.proofs.Closings.{false_lits, seen_at, closes}

abs_neg : (x : ℤ) → unsigned_abs (neg_ℤ x) ≡ unsigned_abs x
abs_neg (pos zero) = refl
abs_neg (pos (suc n)) = refl
abs_neg (negsuc n) = refl

neg_lit : (l : ℤ) → IsLit l → IsLit (neg_ℤ l)
neg_lit l i = subst (λ n. (0 < n) × (n < 2 ^ 63)) (sym (abs_neg l)) i

lit_flip : (l : ℤ) → IsLit l → IsLit (lit_of (flip (code_of l)))
lit_flip l i =
    let j : IsLit (lit_of (code_of l)) = subst IsLit (sym (lit_code l)) i in
    subst IsLit (sym (ap lit_of (flip_code (code_of l) j) ∙ lit_code (neg_ℤ (lit_of (code_of l)))
    ∙ ap neg_ℤ (lit_code l))) (neg_lit l i)

-- a list was gone through, up to what is left
pub visited : (w now : State) (t : Entries) → Keeps w t
    → Going (coded w.store) (coded now.store) (lists_of w.lists) (lists_of now.lists) (true_codes t) w.code w.rest
    now.rest
    → Ready (coded now.store) (next w.store) (lists_of now.lists) → AreFit (coded now.store) (next w.store) now.rest
    → next now.store ≡ next w.store → now.head ≡ w.head → now.code ≡ w.code → Keeps now t
visited w now t k g r f n h c =
    let p = g (true_codes (oldest w.head t)) (among_oldest w.head t) k.watched in
    let P : ℕ → Type 0 = λ z. Watched (coded now.store) (lists_of now.lists) (true_codes (oldest w.head t))
    (true_codes t) z now.rest in
    let Q : ℕ → Type 0 = λ z. Watched (coded now.store) (lists_of now.lists) (true_codes (oldest z t))
    (true_codes t) now.code now.rest in
    record {
      watched = subst Q (sym h) (subst P (sym c) p.0);
      calm = below_on (coded w.store) (coded now.store) (true_codes t) p.1 t (among_self (true_codes t)) k.calm;
      ready = subst (λ z. Ready (coded now.store) z (lists_of now.lists)) (sym n) r;
      fit = subst (λ z. AreFit (coded now.store) z now.rest) (sym n) f;
      lit = subst (λ z. IsLit (lit_of z)) (sym c) k.lit;
    }

-- the list of the literal that became false is taken
pub taken_on : (w : State) (t : Entries) (l : ℤ) (lists : List (List Watch)) (rest : List Watch) (head code : ℕ)
    → Keeps w t → w.rest ≡ [] → IsNext t w.head l → head ≡ w.head + 1 → code ≡ flip (code_of l)
    → lists_of lists ≡ taken (lists_of w.lists) code → rest ≡ lists_of w.lists code
    → Keeps (record { store = w.store; lists = lists; head = head; code = code; rest = rest }) t
taken_on w t l lists rest head code k e n h c m r =
    let next_is : true_codes (oldest (w.head + 1) t) ≡ code_of l ∷ true_codes (oldest w.head t) =
    ap codes_of n.next in
    let P : List Watch → Type 0 = λ z. Watched (coded w.store) (lists_of w.lists) (true_codes (oldest w.head t))
    (true_codes t) w.code z in
    let s = begins (coded w.store) (lists_of w.lists) (true_codes (oldest w.head t)) (true_codes t)
    (true_codes (oldest (w.head + 1) t)) (code_of l) code next_is c w.code (subst P e k.watched) in
    record {
      watched = subst (λ z. Watched (coded w.store) (lists_of lists) (true_codes (oldest z t)) (true_codes t) code rest)
          (sym h) (subst (λ z. Watched (coded w.store) (lists_of lists) (true_codes (oldest (w.head + 1) t))
          (true_codes t) code z) (sym r) (subst (λ z. Watched (coded w.store) z (true_codes (oldest (w.head + 1) t))
          (true_codes t) code (lists_of w.lists code)) (sym m) s));
      calm = k.calm;
      ready = ready_take (coded w.store) (next w.store) (lists_of w.lists) (lists_of lists) code k.ready m;
      fit = subst (λ z. AreFit (coded w.store) (next w.store) z) (sym r) (k.ready.fit code);
      lit = subst (λ z. IsLit (lit_of z)) (sym c) (lit_flip l n.is_lit);
    }

-- the same was gone through
pub headed : (w : State) (t : Entries) (head : ℕ) → Keeps w t → oldest head t ≡ oldest w.head t
    → Keeps (record { store = w.store; lists = w.lists; head = head; code = w.code; rest = w.rest }) t
headed w t head k e = record {
  watched = subst (λ z. Watched (coded w.store) (lists_of w.lists) (true_codes z) (true_codes t) w.code w.rest)
      (sym e) k.watched;
  calm = k.calm;
  ready = k.ready;
  fit = k.fit;
  lit = k.lit;
}

-- the watches went back, as their literal is no longer false
pub put_on : (w : State) (t : Entries) (lists : List (List Watch)) (rest : List Watch) → Keeps w t
    → is_false_code (true_codes t) w.code ≡ false → rest ≡ []
    → lists_of lists ≡ joined (lists_of w.lists) w.code w.rest
    → Keeps (record { store = w.store; lists = lists; head = w.head; code = w.code; rest = rest }) t
put_on w t lists rest k f e j = record {
  watched = subst (λ z. Watched (coded w.store) (lists_of lists) (true_codes (oldest w.head t)) (true_codes t) w.code z)
      (sym e) (subst (λ z. Watched (coded w.store) z (true_codes (oldest w.head t)) (true_codes t) w.code []) (sym j)
      (puts_back (coded w.store) (lists_of w.lists) (true_codes (oldest w.head t)) (true_codes t) w.code w.rest
      (false_from_ne_true (is_false_code (true_codes (oldest w.head t)) w.code)
      (λ h. false≢true (sym f ∙ among_oldest w.head t (flip w.code) h))) k.watched));
  calm = k.calm;
  ready = subst (Ready (coded w.store) (next w.store)) (sym j)
      (ready_back (coded w.store) (next w.store) (lists_of w.lists) w.code w.rest k.ready k.fit);
  fit = subst (λ z. AreFit (coded w.store) (next w.store) z) (sym e) tt;
  lit = k.lit;
}

-- nothing was left to go back
pub settled : (w : State) (t : Entries) (lists : List (List Watch)) (rest : List Watch) → Keeps w t → w.rest ≡ []
    → rest ≡ [] → lists_of lists ≡ joined (lists_of w.lists) w.code w.rest
    → Keeps (record { store = w.store; lists = lists; head = w.head; code = w.code; rest = rest }) t
settled w t lists rest k n e j =
    let s : lists_of w.lists ≡ lists_of lists =
    sym (j ∙ ap (joined (lists_of w.lists) w.code) n ∙ put_none (lists_of w.lists) w.code) in
    let m : w.rest ≡ rest = n ∙ sym e in
    record {
      watched = subst (λ z. Watched (coded w.store) (lists_of lists) (true_codes (oldest w.head t)) (true_codes t)
          w.code z) m (subst (λ z. Watched (coded w.store) z (true_codes (oldest w.head t)) (true_codes t) w.code
          w.rest) s k.watched);
      calm = k.calm;
      ready = subst (Ready (coded w.store) (next w.store)) s k.ready;
      fit = subst (AreFit (coded w.store) (next w.store)) m k.fit;
      lit = k.lit;
    }

-- nothing is held, and nothing is true
pub starts : (w : State) → ((id : ℕ) → coded w.store id ≡ None) → w.lists ≡ [] → w.rest ≡ [] → w.code ≡ 2 → Keeps w []
starts w n l r c = record {
  watched = record {
    two = λ id d h. absurd (none_some d (sym (n id) ∙ h));
    apart = λ id d h. absurd (none_some d (sym (n id) ∙ h));
    kept = λ id d place h. absurd (none_some d (sym (n id) ∙ h));
  };
  calm = tt;
  ready = record {
    lits = λ id d h. absurd (none_some d (sym (n id) ∙ h));
    long = λ id d h. absurd (none_some d (sym (n id) ∙ h));
    fit = λ x. subst (λ z. AreFit (coded w.store) (next w.store) (lists_of z x)) (sym l) tt;
  };
  fit = subst (λ z. AreFit (coded w.store) (next w.store) z) (sym r) tt;
  lit = subst (λ z. IsLit (lit_of z)) (sym c) (omega arith, omega arith);
} where
  none_some : (d : List ℕ) → None ≡ Some d → ⊥
  none_some d e = cc

calm_stop : (w : State) (t : Entries) (id : ℕ) (stop : Option ℕ) → CalmWhere w.store t (scan_at id stop)
calm_stop w t id None = tt
calm_stop w t id (Some x) = tt

-- a list that is gone through stops
pub finds_stop : (w : State) (t : Entries) (id : ℕ) (stop : Option ℕ) (found : Scan) → found ≡ scan_at id stop
    → Ready (coded w.store) (next w.store) (lists_of w.lists) → Stops (coded w.store) (true_codes t) id stop
    → Finds w t (Some found)
finds_stop w t id stop found e r s =
    subst (λ z. Finds w t (Some z)) (sym e) (seen_at w.store (lits t) id stop r.lits s, calm_stop w t id stop)

-- all was gone through
pub finds_none : (w : State) (t : Entries) → Keeps w t → w.rest ≡ [] → length t ≤ w.head
    → Sees (held_of w.store) (lits t) scan.Settled × CalmWhere w.store t scan.Settled
finds_none w t k e l =
    let c = all_calm (coded w.store) (lists_of w.lists) t w.head w.code w.rest l e k.watched in
    (closes w.store (lits t) k.ready.lits k.watched.two k.watched.apart c, c)

on_stop : (o : Option Stop) (stop : Stop) (A : Type 0) (B : Stop → Type 0) → o ≡ Some stop → MatchOption o A B → B stop
on_stop o stop A B e m = subst (λ z. MatchOption z A B) e m

-- where the list stops, its clause is false or forces a literal
pub stops_at : (held : Coded) (set : List ℕ) (rest : List Watch) (o : Option Stop) (stop : Stop) → o ≡ Some stop
    → MatchOption o (rest ≡ []) (λ s. Stops held set s.id s.forced) → Stops held set stop.id stop.forced
stops_at held set rest o stop e m = on_stop o stop (rest ≡ []) (λ s. Stops held set s.id s.forced) e m

-- a clause joins; no more than all that leaves its second literal open was gone through
pub added : (w : State) (t : Entries) (now : Clauses) (lists : List (List Watch)) (head id : ℕ) (clause ordered : List ℤ)
    → Keeps w t → next w.store ≤ id → OpenBelow clause t → SameLits clause ordered → AreLits ordered → Leads t ordered
    → coded now ≡ with_code (coded w.store) id (codes_of ordered) → next now ≡ id + 1
    → lists_of lists ≡ with_watch (with_watch (lists_of w.lists) (code_of (lit_at ordered 0))
    (record { id = id; blocker = code_of (lit_at ordered 1) })) (code_of (lit_at ordered 1))
    (record { id = id; blocker = code_of (lit_at ordered 0) })
    → head ≤ w.head → is_false (lits (oldest head t)) (lit_at ordered 1) ≡ false
    → Keeps (record { store = now; lists = lists; head = head; code = w.code; rest = w.rest }) t
added w t now lists head id clause ordered k b o s a leads e n j h f =
    let v : Watch = record { id = id; blocker = code_of (lit_at ordered 1) } in
    let u : Watch = record { id = id; blocker = code_of (lit_at ordered 0) } in
    let x = get_or (codes_of ordered) 0 0 in
    let y = get_or (codes_of ordered) 1 0 in
    let m : lists_of lists ≡ with_watch (with_watch (lists_of w.lists) x v) y u =
    j ∙ ap (λ z. with_watch (with_watch (lists_of w.lists) z v) (code_of (lit_at ordered 1)) u) (sym (code_at ordered 0))
    ∙ ap (λ z. with_watch (with_watch (lists_of w.lists) x v) z u) (sym (code_at ordered 1)) in
    let long = leads.long in
    record {
      watched = subst (λ z. Watched (coded now) z (true_codes (oldest head t)) (true_codes t) w.code w.rest) (sym m)
          (watched_more t clause ordered s a leads (coded w.store) (coded now) id e (lists_of w.lists)
          (true_codes (oldest w.head t)) (true_codes (oldest head t)) (true_codes t) w.code (next w.store) w.rest v u
          refl refl k.watched (among_fewer head w.head t h) open_at apart);
      calm = below_more t clause ordered s a leads (coded w.store) (coded now) id e t 0 refl (omega arith) o k.calm;
      ready = subst (λ z. Ready (coded now) (next now) z) (sym m) (subst (λ z. Ready (coded now) z
          (with_watch (with_watch (lists_of w.lists) x v) y u)) (sym n)
          (ready_more t clause ordered s a leads (coded w.store) (coded now) id e (lists_of w.lists)
          (true_codes (oldest w.head t)) (true_codes (oldest head t)) (true_codes t) w.code (next w.store) w.rest v u
          refl refl b k.ready refl refl));
      fit = subst (λ z. AreFit (coded now) z w.rest) (sym n)
          (fit_more t clause ordered s a leads (coded w.store) (coded now) id e (lists_of w.lists)
          (true_codes (oldest w.head t)) (true_codes (oldest head t)) (true_codes t) w.code (next w.store) w.rest v u
          refl refl b w.rest k.fit);
      lit = k.lit;
    } where
      lit_here : (place : ℕ) → place < 2 → IsLit (lit_at ordered place)
      lit_here place l = let long = leads.long in lit_there ordered place a (omega (arith, l, long))

      none_at : (place : ℕ) → place < 2 → is_false (lits (oldest head t)) (lit_at ordered place) ≡ false
      none_at zero l = false_from_ne_true (is_false (lits (oldest head t)) (lit_at ordered 0)) (λ q. false≢true (sym f
          ∙ leads.first (lit_at ordered 1) (has_place ordered 1 leads.long) head q))
      none_at (suc zero) l = f
      none_at (suc (suc place)) l = absurd (omega (arith, l))

      open_at : (place : ℕ) → place < 2
          → is_false_code (true_codes (oldest head t)) (get_or (codes_of ordered) place 0) ≡ false
      open_at place l = ap (is_false_code (true_codes (oldest head t))) (code_at ordered place)
          ∙ false_lits (lits (oldest head t)) (lit_at ordered place) (lit_here place l) ∙ none_at place l

      apart : eqb (get_or (codes_of ordered) 0 0) (get_or (codes_of ordered) 1 0) ≡ false
      apart = ap (λ z. eqb z (get_or (codes_of ordered) 1 0)) (code_at ordered 0)
          ∙ ap (eqb (code_of (lit_at ordered 0))) (code_at ordered 1)
          ∙ same_at (lit_at ordered 0) (lit_at ordered 1) ∙ leads.apart
