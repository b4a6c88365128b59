-- The third demand of all lawful rows, by the laws of calls and the theorems of the model.
use mathlib.Core.Path.{◌≡◌, sym, ap, ◌∙◌}
use mathlib.Core.Bool.{true}
use mathlib.Core.Logic.{◌↔◌}
use mathlib.Core.List.{List}
use Prim.Native.Nat.{ℕ}
use lib.Dec.{eqb}
use Rattle.fields.specs.declared.Offset.{Offset}
use Rattle.rows.specs.Rows.{Tables}
use Rattle.rows.specs.Lawful.{lawful}
use Rattle.model.specs.declared.Access.{Access}
use Rattle.model.specs.declared.Access.TheVariants.{Read, Write}
use Rattle.model.specs.Model.{refusal, word_in}
use Rattle.model.specs.Lists.{WholeList}
use Rattle.model.specs.Repeats.{repeats}
use Rattle.model.proofs.Demand.{table_join}
use Rattle.model.proofs.Whole.{whole_list}
use Rattle.model.proofs.Retry.{repeats_each, retry_write_at, retry_write, retry_read, same_answer}
use Rattle.access.specs.Stored.{stored_fields, device_in}
use Rattle.access.specs.Perform.{answer_of, store_after, Fitting, Answered, store_after_all, answers_of}
use Rattle.access.proofs.Suited.{lawful_suited, lawful_alone}
use Rattle.access.proofs.Calls.{call_refusal, call_store, call_answer, calls_store, calls_answers, call_twice, call_word, call_word_twice, call_retry}
use Rattle.demands.specs.Demands.{Demand3}

is_answered : (n : ℕ) → n ≡ 0 → eqb n 0 ≡ true
is_answered n e = ap (λ (k : ℕ). eqb k 0) e

module _ (t : Tables) (e : lawful t ≡ true) where
  whole_rows : (xs : List Access) (s : List ℕ) → Fitting t s → WholeList (device_in t) xs s (store_after_all t xs s) (answers_of t xs s)
  whole_rows xs s h = rw (calls_store t e xs s h, calls_answers t e xs s h) (whole_list (device_in t) (lawful_suited t e) xs s h.fitting)

  -- ---- accesses made again

  write_at : (a : Offset) (w x : ℕ) → Answered t (Write a w x) → (s : List ℕ) → Fitting t s
      → (store_after t (store_after t s (Write a w x)) (Write a w x) ≡ store_after t s (Write a w x)) ↔ (repeats (stored_fields t) (Write a w x) ≡ true)
  write_at a w x h s f =
      let q = retry_write_at (device_in t) (lawful_suited t e) a w x (is_answered (refusal (device_in t) (Write a w x)) h) (lawful_alone t e a w) s f.fitting in (
        (λ k. q.0 (sym (call_twice t e s f (Write a w x)) ∙ k ∙ call_store t e s f (Write a w x))),
        (λ r. call_twice t e s f (Write a w x) ∙ q.1 r ∙ sym (call_store t e s f (Write a w x))),
      )

  write_again : (a : Offset) (w x : ℕ) → Answered t (Write a w x)
      → ((s : List ℕ) → Fitting t s → store_after t (store_after t s (Write a w x)) (Write a w x) ≡ store_after t s (Write a w x)) ↔ (repeats (stored_fields t) (Write a w x) ≡ true)
  write_again a w x h =
      let q = retry_write (device_in t) (lawful_suited t e) a w x (is_answered (refusal (device_in t) (Write a w x)) h) (lawful_alone t e a w) in (
        (λ k. q.0 (λ s f. sym (call_twice t e s f (Write a w x)) ∙ k s f ∙ call_store t e s f (Write a w x))),
        (λ r s f. call_twice t e s f (Write a w x) ∙ q.1 r s f ∙ sym (call_store t e s f (Write a w x))),
      )

  read_again : (a : Offset) (w : ℕ) → Answered t (Read a w)
      → ((s : List ℕ) → Fitting t s → word_in (answer_of t (store_after t s (Read a w)) (Read a w)) ≡ word_in (answer_of t s (Read a w))) ↔ (repeats (stored_fields t) (Read a w) ≡ true)
  read_again a w h =
      let q = retry_read (device_in t) (lawful_suited t e) a w (is_answered (refusal (device_in t) (Read a w)) h) in (
        (λ k. q.0 (λ s f. sym (call_word_twice t e s f (Read a w) h) ∙ k s f ∙ call_word t e s f (Read a w) h)),
        (λ r s f. call_word_twice t e s f (Read a w) h ∙ q.1 r s f ∙ sym (call_word t e s f (Read a w) h)),
      )

  pub demand_3 : Demand3 t
  demand_3 =
      record {
        refusing = call_refusal t e;
        whole = whole_rows;
        joined = table_join (device_in t);
        retried_write = write_at;
        retried_writes = write_again;
        retried_read = read_again;
        criterion = repeats_each (stored_fields t);
        retrying = call_retry t e;
        alike = λ a w s u f g k. call_answer t e s f (Read a w) ∙ same_answer (device_in t) a w s u k ∙ sym (call_answer t e u g (Read a w));
      }
