use Rattle.std.proofs.Common.{sym, subst}
use Rattle.cov_history.specs.Answers.{Serves}
use Rattle.store_core.specs.declared.asks.Ask.{Ask}
use Rattle.store_core.specs.Asks.{asked, revision_of}
use Rattle.merge_store.specs.Stores.{opening_of, entries_of}
use Rattle.store_parts.specs.Told.{admitted, excluded, included, revised, rows_read, illegal_read, cover_read, tests_read, rank_read, name_read, chunk_read}
use Rattle.store_parts.proofs.Served.{serves_hello, serves_counts, serves_coverage, serves_illegal, serves_tests, serves_test_counts, serves_rank, serves_name, serves_fetch, serves_admit, serves_exclude, serves_include, serves_revise}
use Rattle.merge_store.proofs.store.Store.answer.Goals as goal

pub returns-in-Hello-clause-served : goal.returns-in-Hello-clause-served
returns-in-Hello-clause-served g c =
    let s = c.args.self.now in
    let o = opening_of s in
    let h = entries_of s in
    let n = c.args.caller in
    subst (λ (a : Ask). Serves o n h (asked a) c.hello.result h) (sym c.in-Hello.is) (serves_hello o h n s.keeps.going c.in-Hello.point c.hello.result c.hello.ensures)

pub returns-in-Counts-clause-served : goal.returns-in-Counts-clause-served
returns-in-Counts-clause-served g c =
    let s = c.args.self.now in
    let o = opening_of s in
    let h = entries_of s in
    let n = c.args.caller in
    subst (λ (a : Ask). Serves o n h (asked a) c.of_rows.result h) (sym c.in-Counts.is) (serves_counts o h n s.keeps.going c.in-Counts.first c.in-Counts.path c.as_slice.result.now c.of_rows.result (rows_read c.counts.result) c.of_rows.ensures c.as_slice.ensures c.counts.ensures)

pub returns-in-Coverage-clause-served : goal.returns-in-Coverage-clause-served
returns-in-Coverage-clause-served g c =
    let s = c.args.self.now in
    let o = opening_of s in
    let h = entries_of s in
    let n = c.args.caller in
    subst (λ (a : Ask). Serves o n h (asked a) c.of_coverage.result h) (sym c.in-Coverage.is) (serves_coverage o h n s.keeps.going c.in-Coverage.path c.as_slice-in-Coverage.result.now c.of_coverage.result (cover_read c.coverage.result) c.of_coverage.ensures c.as_slice-in-Coverage.ensures c.coverage.ensures)

pub returns-in-Illegal-clause-served : goal.returns-in-Illegal-clause-served
returns-in-Illegal-clause-served g c =
    let s = c.args.self.now in
    let o = opening_of s in
    let h = entries_of s in
    let n = c.args.caller in
    subst (λ (a : Ask). Serves o n h (asked a) c.of_illegal.result h) (sym c.in-Illegal.is) (serves_illegal o h n s.keeps.going c.in-Illegal.first c.of_illegal.result (illegal_read c.illegal.result) c.of_illegal.ensures c.illegal.ensures)

pub returns-in-Tests-clause-served : goal.returns-in-Tests-clause-served
returns-in-Tests-clause-served g c =
    let s = c.args.self.now in
    let o = opening_of s in
    let h = entries_of s in
    let n = c.args.caller in
    subst (λ (a : Ask). Serves o n h (asked a) c.of_tests.result h) (sym c.in-Tests.is) (serves_tests o h n s.keeps.going c.in-Tests.first c.of_tests.result (tests_read c.tests.result) c.of_tests.ensures c.tests.ensures)

pub returns-in-TestCounts-clause-served : goal.returns-in-TestCounts-clause-served
returns-in-TestCounts-clause-served g c =
    let s = c.args.self.now in
    let o = opening_of s in
    let h = entries_of s in
    let n = c.args.caller in
    subst (λ (a : Ask). Serves o n h (asked a) c.of_rows-in-TestCounts.result h) (sym c.in-TestCounts.is) (serves_test_counts o h n s.keeps.going c.in-TestCounts.first c.in-TestCounts.id c.as_slice-in-TestCounts.result.now c.in-TestCounts.path c.as_slice-in-TestCounts-2.result.now c.of_rows-in-TestCounts.result (rows_read c.test_counts.result) c.of_rows-in-TestCounts.ensures c.as_slice-in-TestCounts.ensures c.as_slice-in-TestCounts-2.ensures c.test_counts.ensures)

pub returns-in-Rank-clause-served : goal.returns-in-Rank-clause-served
returns-in-Rank-clause-served g c =
    let s = c.args.self.now in
    let o = opening_of s in
    let h = entries_of s in
    let n = c.args.caller in
    subst (λ (a : Ask). Serves o n h (asked a) c.of_rank.result h) (sym c.in-Rank.is) (serves_rank o h n s.keeps.going c.of_rank.result (rank_read c.rank.result) c.of_rank.ensures c.rank.ensures)

pub returns-in-NameOf-clause-served : goal.returns-in-NameOf-clause-served
returns-in-NameOf-clause-served g c =
    let s = c.args.self.now in
    let o = opening_of s in
    let h = entries_of s in
    let n = c.args.caller in
    subst (λ (a : Ask). Serves o n h (asked a) c.of_name.result h) (sym c.in-NameOf.is) (serves_name o h n s.keeps.going c.in-NameOf.bin c.of_name.result (name_read c.name_of.result) c.of_name.ensures c.name_of.ensures)

pub returns-in-Admit-clause-served : goal.returns-in-Admit-clause-served
returns-in-Admit-clause-served g c =
    let s = c.args.self.now in
    let o = opening_of s in
    let h = entries_of s in
    let n = c.args.caller in
    subst (λ (a : Ask). Serves o n h (asked a) c.of_admit.result (entries_of c.admit.new.self)) (sym c.in-Admit.is) (serves_admit o h n s.keeps.going c.in-Admit.since c.in-Admit.prepared.of c.of_admit.result (admitted c.admit.result) (entries_of c.admit.new.self) c.of_admit.ensures c.admit.ensures.answer)

pub returns-in-Exclude-clause-served : goal.returns-in-Exclude-clause-served
returns-in-Exclude-clause-served g c =
    let s = c.args.self.now in
    let o = opening_of s in
    let h = entries_of s in
    let n = c.args.caller in
    subst (λ (a : Ask). Serves o n h (asked a) c.of_exclude.result (entries_of c.exclude.new.self)) (sym c.in-Exclude.is) (serves_exclude o h n s.keeps.going c.in-Exclude.path c.as_slice-in-Exclude.result.now c.of_exclude.result (excluded c.exclude.result) (entries_of c.exclude.new.self) c.of_exclude.ensures c.as_slice-in-Exclude.ensures c.exclude.ensures.answer)

pub returns-in-Include-clause-served : goal.returns-in-Include-clause-served
returns-in-Include-clause-served g c =
    let s = c.args.self.now in
    let o = opening_of s in
    let h = entries_of s in
    let n = c.args.caller in
    subst (λ (a : Ask). Serves o n h (asked a) c.of_include.result (entries_of c.include.new.self)) (sym c.in-Include.is) (serves_include o h n s.keeps.going c.in-Include.path c.as_slice-in-Include.result.now c.of_include.result (included c.include.result) (entries_of c.include.new.self) c.of_include.ensures c.as_slice-in-Include.ensures c.include.ensures.answer)

pub returns-in-Revise-clause-served : goal.returns-in-Revise-clause-served
returns-in-Revise-clause-served g c =
    let s = c.args.self.now in
    let o = opening_of s in
    let h = entries_of s in
    let n = c.args.caller in
    subst (λ (a : Ask). Serves o n h (asked a) c.of_revise.result (entries_of c.revise.new.self)) (sym c.in-Revise.is) (serves_revise o h n s.keeps.going c.in-Revise.rebinned.since (revision_of c.in-Revise.rebinned) c.of_revise.result (revised c.revise.result) (entries_of c.revise.new.self) c.of_revise.ensures c.revise.ensures.answer)

pub returns-in-Fetch-clause-served : goal.returns-in-Fetch-clause-served
returns-in-Fetch-clause-served g c =
    let s = c.args.self.now in
    let o = opening_of s in
    let h = entries_of s in
    let n = c.args.caller in
    subst (λ (a : Ask). Serves o n h (asked a) c.of_chunk.result h) (sym c.in-Fetch.is) (serves_fetch o h n s.keeps.going c.in-Fetch.place c.in-Fetch.offset c.of_chunk.result (chunk_read c.fetch.result) c.of_chunk.ensures c.fetch.ensures)
