-- Where a misspelt token goes wrong. The reader's offset is that of the first byte that no N token has after the bytes before it, or the token's length
-- where the fold is missing: each stage of the reader fails at one byte, reads on if that one is left out, and fails there whatever follows.
use Rattle.std.specs.Prelude.{◌≡◌, refl, Bool, true, false, cond, List, [], ◌∷◌, ◌++◌, ◌⊎◌, ℕ, zero, suc, ◌+◌, ◌<◌, eqb, length, take, Option, Some, None}
use Rattle.std.proofs.Common.{sym, ◌∙◌, ap, subst, inl, inr, arith, eqb-true}
use Rattle.hall_axes.specs.declared.Fold.{Fold}
use Rattle.hall_axes.specs.declared.Mark.{Mark}
use Rattle.hall_axes.specs.declared.Mark.TheVariants.{Unmarked, Single, Double}
use Rattle.hall_token.specs.Bytes.{fold_of, mark_of, letter_of, value_at}
use Rattle.hall_token.specs.Runs.{every, may_stand}
use Rattle.hall_token.specs.Offsets.{sign_length, mark_length, run_start, passing, passing-short, passing-good, passing-stays}
use Rattle.hall_token.specs.Reader.{Parts, parts, no-parts, read_run, letter_then, read_letter, mark_then, read_mark, fold_then, read_fold, read_token}
use Rattle.hall_token.specs.Spelling.{Spells, read-exact}
use Rattle.laws.specs.Prefixes.{FirstOffending}
use Rattle.hall_axes.specs.declared.Direction.{Direction}

-- The parts that a token spells.
pub record Spelling (token : List ℕ) : Type 0 where
  pub negative : Bool
  pub fold : Fold
  pub mark : Mark
  pub letter : Option Direction
  pub run : List ℕ
  pub spells : Spells token negative fold mark letter run

-- ---- the reader fails at one byte
abbrev IsParts : Parts → Type 0
IsParts (parts n f m l run) = Unit {0}
IsParts (no-parts k) = ⊥

parts-not : (n : Bool) (f : Fold) (m : Mark) (l : Option Direction) (run : List ℕ) (k : ℕ) → parts n f m l run ≡ no-parts k → ⊥
parts-not n f m l run k e = subst IsParts e tt

same-offset : (j k : ℕ) → no-parts j ≡ no-parts k → j ≡ k
same-offset j k e = cc

-- A stage that starts at an offset, and what is left there: it fails at the byte at `at`.
record Fault (stage : List ℕ → Parts) (start : ℕ) (left : List ℕ) (k : ℕ) : Type 0 where
  at : ℕ
  offset : k ≡ start + at
  within : at < length left
  behind : List ℕ
  good : IsParts (stage (take at left ++ behind))
  stays : (w : List ℕ) → stage (take (suc at) left ++ w) ≡ no-parts k

-- A stage that takes a byte and hands on what is behind it.
taken : (outer inner : List ℕ → Parts) (start b : ℕ) (bs : List ℕ) (k : ℕ) → ((w : List ℕ) → outer (b ∷ w) ≡ inner w) → Fault inner (start + 1) bs k
    → Fault outer start (b ∷ bs) k
taken outer inner start b bs k same h =
    record {
      at = suc h.at;
      offset = omega (arith, h.offset);
      within = omega (arith, h.within);
      behind = h.behind;
      good = subst IsParts (sym (same (take h.at bs ++ h.behind))) h.good;
      stays = λ w. same (take (suc h.at) bs ++ w) ∙ h.stays w;
    }

-- A stage that hands on the byte too; `fresh` makes it parts by itself.
handed : (outer inner : List ℕ → Parts) (start b : ℕ) (bs : List ℕ) (k : ℕ) → ((w : List ℕ) → outer (b ∷ w) ≡ inner (b ∷ w)) → (fresh : List ℕ)
    → IsParts (outer fresh) → Fault inner start (b ∷ bs) k → Fault outer start (b ∷ bs) k
handed outer inner start b bs k same fresh alone h = go h.at refl
  where
    stays : (w : List ℕ) → outer (take (suc h.at) (b ∷ bs) ++ w) ≡ no-parts k
    stays w = same (take h.at bs ++ w) ∙ h.stays w

    go : (i : ℕ) → h.at ≡ i → Fault outer start (b ∷ bs) k
    go zero e =
        record {
          at = h.at;
          offset = h.offset;
          within = h.within;
          behind = fresh;
          good = subst (λ (i : ℕ). IsParts (outer (take i (b ∷ bs) ++ fresh))) (sym e) alone;
          stays = stays;
        }
    go (suc i) e =
        let given = subst (λ (j : ℕ). IsParts (inner (take j (b ∷ bs) ++ h.behind))) e h.good in
        record {
          at = h.at;
          offset = h.offset;
          within = h.within;
          behind = h.behind;
          good = subst (λ (j : ℕ). IsParts (outer (take j (b ∷ bs) ++ h.behind))) (sym e) (subst IsParts (sym (same (take i bs ++ h.behind))) given);
          stays = stays;
        }

run-fault : (n : Bool) (f : Fold) (m : Mark) (l : Option Direction) (run : List ℕ) (k : ℕ) → read_run n f m l run ≡ no-parts k
    → Fault (read_run n f m l) (run_start n m l) run k
unfolding read_run
run-fault n f m l run k e = go (every may_stand run) refl e
  where
    go : (t : Bool) → every may_stand run ≡ t → cond t (parts n f m l run) (no-parts (run_start n m l + passing may_stand run)) ≡ no-parts k
        → Fault (read_run n f m l) (run_start n m l) run k
    go true h d = absurd (parts-not n f m l run k d)
    go false h d =
        record {
          at = passing may_stand run;
          offset = sym (same-offset (run_start n m l + passing may_stand run) k d);
          within = passing-short may_stand run h;
          behind = [];
          good = rw (passing-good may_stand run) tt;
          stays = λ w. rw ((passing-stays may_stand run w h).0, (passing-stays may_stand run w h).1) d;
        }

letter-fault : (n : Bool) (f : Fold) (m : Mark) (left : List ℕ) (k : ℕ) → read_letter n f m left ≡ no-parts k
    → Fault (read_letter n f m) (sign_length n + 1 + mark_length m) left k
unfolding read_letter letter_then read_run every
letter-fault n f m [] k e = absurd (parts-not n f m None [] k e)
letter-fault n f m (b ∷ bs) k e = go (letter_of b) refl
  where
    own : (l : Option Direction) → letter_of b ≡ l → letter_then n f m l b bs ≡ no-parts k
    own l h = ap (λ (x : Option Direction). letter_then n f m x b bs) (sym h) ∙ e

    same : (l : Option Direction) → letter_of b ≡ l → (w : List ℕ) → read_letter n f m (b ∷ w) ≡ letter_then n f m l b w
    same l h w = ap (λ (x : Option Direction). letter_then n f m x b w) h

    go : (l : Option Direction) → letter_of b ≡ l → Fault (read_letter n f m) (sign_length n + 1 + mark_length m) (b ∷ bs) k
    go (Some d) h =
        taken (read_letter n f m) (read_run n f m (Some d)) (sign_length n + 1 + mark_length m) b bs k (same (Some d) h) (run-fault n f m (Some d) bs k
        (own (Some d) h))
    go None h =
        let s : sign_length n + 1 + mark_length m + 0 ≡ sign_length n + 1 + mark_length m = omega arith in
        handed (read_letter n f m) (read_run n f m None) (sign_length n + 1 + mark_length m) b bs k (same None h) [] tt
        (subst (λ (o : ℕ). Fault (read_run n f m None) o (b ∷ bs) k) s (run-fault n f m None (b ∷ bs) k (own None h)))

mark-fault : (n : Bool) (f : Fold) (left : List ℕ) (k : ℕ) → read_mark n f left ≡ no-parts k → Fault (read_mark n f) (sign_length n + 1) left k
unfolding read_mark mark_then read_letter read_run every
mark-fault n f [] k e = absurd (parts-not n f Unmarked None [] k e)
mark-fault n f (b ∷ bs) k e = go (mark_of b) refl
  where
    own : (m : Mark) → mark_of b ≡ m → mark_then n f m b bs ≡ no-parts k
    own m h = ap (λ (x : Mark). mark_then n f x b bs) (sym h) ∙ e

    same : (m : Mark) → mark_of b ≡ m → (w : List ℕ) → read_mark n f (b ∷ w) ≡ mark_then n f m b w
    same m h w = ap (λ (x : Mark). mark_then n f x b w) h

    go : (m : Mark) → mark_of b ≡ m → Fault (read_mark n f) (sign_length n + 1) (b ∷ bs) k
    go Unmarked h =
        let s : sign_length n + 1 + 0 ≡ sign_length n + 1 = omega arith in
        handed (read_mark n f) (read_letter n f Unmarked) (sign_length n + 1) b bs k (same Unmarked h) [] tt
        (subst (λ (o : ℕ). Fault (read_letter n f Unmarked) o (b ∷ bs) k) s (letter-fault n f Unmarked (b ∷ bs) k (own Unmarked h)))
    go Single h = taken (read_mark n f) (read_letter n f Single) (sign_length n + 1) b bs k (same Single h) (letter-fault n f Single bs k (own Single h))
    go Double h = taken (read_mark n f) (read_letter n f Double) (sign_length n + 1) b bs k (same Double h) (letter-fault n f Double bs k (own Double h))

-- The fold alone makes a token.
fold-alone : (n : Bool) → IsParts (read_fold n (49 ∷ []))
unfolding read_fold fold_then fold_of value_at read_mark read_letter read_run every
fold-alone n = tt

-- Where the fold should stand may be the end.
fold-fault : (n : Bool) (left : List ℕ) (k : ℕ) → read_fold n left ≡ no-parts k → Fault (read_fold n) (sign_length n) left k
    ⊎ ((left ≡ []) × (k ≡ sign_length n))
unfolding read_fold fold_then
fold-fault n [] k e = inr (refl, sym (same-offset (sign_length n) k e))
fold-fault n (b ∷ bs) k e = inl (go (fold_of b) refl)
  where
    own : (v : Option Fold) → fold_of b ≡ v → fold_then n v bs ≡ no-parts k
    own v h = ap (λ (x : Option Fold). fold_then n x bs) (sym h) ∙ e

    same : (v : Option Fold) → fold_of b ≡ v → (w : List ℕ) → read_fold n (b ∷ w) ≡ fold_then n v w
    same v h w = ap (λ (x : Option Fold). fold_then n x w) h

    go : (v : Option Fold) → fold_of b ≡ v → Fault (read_fold n) (sign_length n) (b ∷ bs) k
    go (Some f) h = taken (read_fold n) (read_mark n f) (sign_length n) b bs k (same (Some f) h) (mark-fault n f bs k (own (Some f) h))
    go Option.None h =
        record {
          at = 0;
          offset = omega (arith, same-offset (sign_length n) k (own Option.None h));
          within = omega arith;
          behind = 49 ∷ [];
          good = fold-alone n;
          stays = λ w. same Option.None h w ∙ own Option.None h;
        }

-- The token is empty, or `-` alone.
abbrev pub FoldMissing : List ℕ → Type 0
FoldMissing token = (token ≡ []) ⊎ (token ≡ 45 ∷ [])

token-fault : (token : List ℕ) (k : ℕ) → read_token token ≡ no-parts k → Fault read_token 0 token k ⊎ (FoldMissing token × (k ≡ length token))
unfolding read_token
token-fault [] k e = inr (inl refl, sym (same-offset 0 k e))
token-fault (b ∷ bs) k e = go (eqb b 45) refl
  where
    own : (t : Bool) → eqb b 45 ≡ t → cond t (read_fold true bs) (read_fold false (b ∷ bs)) ≡ no-parts k
    own t h = ap (λ (x : Bool). cond x (read_fold true bs) (read_fold false (b ∷ bs))) (sym h) ∙ e

    same : (t : Bool) → eqb b 45 ≡ t → (w : List ℕ) → read_token (b ∷ w) ≡ cond t (read_fold true w) (read_fold false (b ∷ w))
    same t h w = ap (λ (x : Bool). cond x (read_fold true w) (read_fold false (b ∷ w))) h

    go : (t : Bool) → eqb b 45 ≡ t → Fault read_token 0 (b ∷ bs) k ⊎ (FoldMissing (b ∷ bs) × (k ≡ length (b ∷ bs)))
    go true h = behind-sign (fold-fault true bs k (own true h))
      where
        behind-sign : Fault (read_fold true) 1 bs k ⊎ ((bs ≡ []) × (k ≡ 1)) → Fault read_token 0 (b ∷ bs) k ⊎ (FoldMissing (b ∷ bs) × (k ≡ length (b ∷ bs)))
        behind-sign (inl f) = inl (taken read_token (read_fold true) 0 b bs k (same true h) f)
        behind-sign (inr (none, last)) =
            inr (inr (ap (λ (c : ℕ). c ∷ bs) (eqb-true b 45 h) ∙ ap (λ (l : List ℕ). 45 ∷ l) none), last ∙ sym (ap (λ (l : List ℕ). suc (length l)) none))
    go false h = no_sign (fold-fault false (b ∷ bs) k (own false h))
      where
        no_sign : Fault (read_fold false) 0 (b ∷ bs) k ⊎ ((b ∷ bs ≡ []) × (k ≡ 0)) → Fault read_token 0 (b ∷ bs) k
            ⊎ (FoldMissing (b ∷ bs) × (k ≡ length (b ∷ bs)))
        no_sign (inl f) = inl (handed read_token (read_fold false) 0 b bs k (same false h) (49 ∷ []) (fold-alone false) f)
        no_sign (inr (none, last)) = let z : ◌≡◌ {A = ℕ} 0 1 = cc in absurd (omega arith)

-- ---- said of spelling
parts-spelling : (token : List ℕ) → IsParts (read_token token) → Spelling token
parts-spelling token h = go (read_token token) refl h
  where
    go : (w : Parts) → read_token token ≡ w → IsParts w → Spelling token
    go (parts n f m l run) e tt = record { negative = n; fold = f; mark = m; letter = l; run = run; spells = (read-exact token n f m l run).0 e }
    go (no-parts k) e g = absurd g

no-spelling : (token : List ℕ) (k : ℕ) → read_token token ≡ no-parts k → ¬ (Spelling token)
no-spelling token k e s =
    parts-not s.negative s.fold s.mark s.letter s.run k (sym
    ((read-exact token s.negative s.fold s.mark s.letter s.run).1 s.spells) ∙ e)

-- The reader points at the first offending byte.
pub offending : (token : List ℕ) (k : ℕ) → read_token token ≡ no-parts k → FirstOffending Spelling token k
unfolding read_token
offending token k e = go (token-fault token k e)
  where
    go : Fault read_token 0 token k ⊎ (FoldMissing token × (k ≡ length token)) → FirstOffending Spelling token k
    go (inl f) =
        let here : k ≡ f.at = omega (arith, f.offset) in
        record {
          within = omega (arith, f.within);
          good = rw here (f.behind, parts-spelling (take f.at token ++ f.behind) f.good);
          offends = λ less (rest, s). no-spelling (take (suc k) token ++ rest) k (ap (λ (o : ℕ). read_token (take (suc o) token ++ rest)) here
              ∙ f.stays rest) s;
          breaks-off = λ last. absurd (omega (arith, f.within, last));
        }
    go (inr (inl none, last)) =
        record {
          within = omega (arith, last);
          good = (49 ∷ [], rw (last, none) (parts-spelling (49 ∷ []) (fold-alone false)));
          offends = λ less. absurd (omega (arith, last));
          breaks-off = λ _. no-spelling token k e;
        }
    go (inr (inr sign, last)) =
        record {
          within = omega (arith, last);
          good = (49 ∷ [], rw (last, sign) (parts-spelling (45 ∷ 49 ∷ []) (fold-alone true)));
          offends = λ less. absurd (omega (arith, last));
          breaks-off = λ _. no-spelling token k e;
        }

-- The place is the token's end exactly if the fold is missing.
pub missing-end : (token : List ℕ) (k : ℕ) → read_token token ≡ no-parts k → k ≡ length token → FoldMissing token
missing-end token k e last = go (token-fault token k e)
  where
    go : Fault read_token 0 token k ⊎ (FoldMissing token × (k ≡ length token)) → FoldMissing token
    go (inl f) = absurd (omega (arith, f.offset, f.within, last))
    go (inr (missing, _)) = missing
