mod Merged
