mod Masking
