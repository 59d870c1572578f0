-- How long a text is at most, whatever the counts.
mod Longest
